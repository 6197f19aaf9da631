-- The numbers of the faults.
use Rattle.std.specs.Prelude.{ℕ}
use Rattle.decode.specs.declared.fault.DecodeFault.{DecodeFault}
use Rattle.decode.specs.declared.fault.DecodeFault.TheVariants.{Magic, Version, End, Leb, Order, Size, Kind, Opcode, Name, Counts, Profile}
use Rattle.decode.specs.declared.fault.DecodeFault.TheVariants.{Limit, Memory}

abbrev pub number_of_decode_fault : DecodeFault → ℕ
number_of_decode_fault Magic = 1
number_of_decode_fault Version = 2
number_of_decode_fault End = 3
number_of_decode_fault Leb = 4
number_of_decode_fault Order = 5
number_of_decode_fault Size = 6
number_of_decode_fault Kind = 7
number_of_decode_fault Opcode = 8
number_of_decode_fault Name = 9
number_of_decode_fault Counts = 10
number_of_decode_fault Profile = 11
number_of_decode_fault Limit = 12
number_of_decode_fault Memory = 13
