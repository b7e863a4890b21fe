use Rattle.std.specs.Prelude.{ℕ, List}
use Rattle.terms.specs.Octets.{octets_of}
use Rattle.gateway.specs.declared.row.Row.{Row}

-- the octets of a line
abbrev pub held_in : Row → List ℕ
held_in r = octets_of r.octets
