use Rattle.std.specs.Prelude.{ℕ, Bool, true, false}
use Rattle.bearer.specs.declared.side.Side.{Side}
use Rattle.bearer.specs.declared.side.Side.TheVariants.{Mobile, Network}
use Rattle.bearer.specs.declared.side.Highest.{Highest}
use Rattle.bearer.specs.declared.side.Highest.TheVariants.{Seven, Eight}

abbrev pub other : Side → Side
other Mobile = Network
other Network = Mobile

abbrev pub same : Side → Side → Bool
same Mobile Mobile = true
same Mobile Network = false
same Network Mobile = false
same Network Network = true

-- seven or eight bits an octet
abbrev pub highest_octet : Highest → ℕ
highest_octet Seven = 127
highest_octet Eight = 255
