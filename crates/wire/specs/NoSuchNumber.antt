use Rattle.std.specs.Prelude.{Option, Result}
use Rattle.std.specs.Option.{ok_or}
use Rattle.wire.specs.declared.no_such_number.NoSuchNumber.{NoSuchNumber}

-- what a number names, where it names something
abbrev pub named : {T : Type 0} → Option T → Result T NoSuchNumber
named o = ok_or o (record {})
