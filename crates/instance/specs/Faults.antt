-- Why an instance of a module could not be created.
use Rattle.std.specs.Prelude.{ℕ, All}
use Rattle.syntax.specs.declared.contents.Contents.{Contents}
use Rattle.valid.specs.Segments.{ElementFits, DataFits, SegmentsFit}
use Rattle.instance.specs.declared.fault.InstFault.{InstFault}
use Rattle.instance.specs.declared.fault.InstFault.TheVariants.{ElementRange, DataRange, Memory}

abbrev pub number_of_fault : InstFault → ℕ
number_of_fault ElementRange = 1
number_of_fault DataRange = 2
number_of_fault Memory = 3

-- An element segment doesn't fit; or all of them do, and a data segment doesn't; or all segments fit: then nothing but memory
-- was wanting.
abbrev pub ExplainsInstFault : Contents → InstFault → Type 0
ExplainsInstFault m ElementRange = ¬ (All (ElementFits m) m.elements)
ExplainsInstFault m DataRange = All (ElementFits m) m.elements × ¬ (All (DataFits m) m.«data»)
ExplainsInstFault m Memory = SegmentsFit m
