use Rattle.std.proofs.Common.{take, All}
use Rattle.valid.specs.Segments.{ElementFits}
use Rattle.valid.proofs.segments.elements_fit.Given as goal

abbrev pub invariant-loop-element : goal.invariant-loop-element
invariant-loop-element l = All (ElementFits l.contents) (take l.element-index l.contents.elements)
