use Rattle.std.specs.Prelude.{ℕ, List, take}
use Rattle.terms.specs.declared.octets.Octets.{Octets}

-- the octets that are held
abbrev pub octets_of : {CAP : ℕ} → Octets CAP → List ℕ
octets_of o = take o.len o.cells
