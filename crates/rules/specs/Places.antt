use Rattle.std.specs.Prelude.{ℕ, ◌+◌, ◌%◌, cond, List, ◌==◌, slice_index}
use Rattle.wire.specs.declared.kind.Kind.TheVariants.{DataLong}
use Rattle.wire.specs.Kind.{kind_number}
use Rattle.wire.specs.Pdu.{kind_in}

-- the header's length octet: behind the first octet, and behind the address field in Data_Long
abbrev pub header_place : List ℕ → ℕ
header_place xs = cond (kind_in xs == kind_number DataLong) (2 + slice_index xs 1 % 32) 1
