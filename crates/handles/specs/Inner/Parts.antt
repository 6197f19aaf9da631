-- The places of three kinds in one room.
use Rattle.std.specs.Prelude.{ℕ, ◌+◌, ◌-◌, List, [], length, take, drop, refl}
use Rattle.std.specs.Coded.{Coded, code_by, coded×, coded_list}
use Rattle.handles.specs.declared.handle.Kind.{Kind}
use Rattle.handles.specs.declared.handle.Kind.TheVariants.{Timer, Idle, Check, Async}
use Rattle.handles.specs.declared.sorted.ListPlace.{ListPlace}
use Rattle.handles.specs.Place.{coded_place}

pub record Parts : Type 0 where
  pub idle : List ListPlace
  pub check : List ListPlace
  pub timers : List ListPlace

abbrev pub parts_code : Coded Parts
parts_code =
    code_by (List ListPlace × (List ListPlace × List ListPlace)) (coded× (coded_list coded_place) (coded× (coded_list coded_place) (coded_list coded_place)))
    (λ p. (p.idle, (p.check, p.timers))) (λ p. record { idle = p.0; check = p.1.0; timers = p.1.1 }) (λ _. refl)

-- the parts of places among which the checks begin here, and the timers there
abbrev pub parts_of : List ListPlace → (checks timers : ℕ) → Parts
parts_of places checks timers = record { idle = take checks places; check = take (timers - checks) (drop checks places); timers = drop timers places }

abbrev pub no_places : Parts
no_places = record { idle = []; check = []; timers = [] }

-- the places of a kind
abbrev pub part : Kind → Parts → List ListPlace
part Timer p = p.timers
part Idle p = p.idle
part Check p = p.check
part Async p = []

abbrev pub with_part : Kind → List ListPlace → Parts → Parts
with_part Timer places p = record p { timers = places }
with_part Idle places p = record p { idle = places }
with_part Check places p = record p { check = places }
with_part Async places p = p

-- how many places there are
abbrev pub count : Parts → ℕ
count p = length p.idle + length p.check + length p.timers
