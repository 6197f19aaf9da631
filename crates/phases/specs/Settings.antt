-- What a loop is made of, as definitions speak of it.
use Rattle.std.specs.Arc.{arc_value}
use Rattle.phases.specs.declared.setting.Setting.{Setting as CodeSetting}
use Rattle.phases.specs.State.{Setting}

abbrev pub setting_of : CodeSetting → Setting
setting_of g = record { loaded = arc_value g.linked; loop_no = g.loop_no; fuel = g.settings.fuel; work_fuel = g.settings.work_fuel; depth = g.settings.depth }
