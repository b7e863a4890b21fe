use Rattle.std.specs.Prelude.{ℕ, cond, List, length, Some, None, Option, nat_le}
use Rattle.lines.specs.declared.place.Place.{Place}
use Rattle.terms.specs.Octets.{octets_of}
use Rattle.direct.specs.declared.line.DirectLine.{DirectLine}

abbrev pub held : DirectLine → List ℕ
held l = octets_of l.string

-- a string stands as it is
abbrev pub written : Place → List ℕ → List ℕ
written p xs = xs

abbrev pub read_as : Place → List ℕ → Option (List ℕ)
read_as p ys = cond (nat_le (length ys) 160) (Some ys) None
