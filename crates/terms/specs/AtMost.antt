-- How high octets are.
use Rattle.std.specs.Prelude.{ℕ, ◌≤◌, List, [], ◌∷◌}

-- none is above h
abbrev pub AtMost : ℕ → List ℕ → Type 0
AtMost h [] = Unit {0}
AtMost h (x ∷ xs) = (x ≤ h) × AtMost h xs

-- each is an octet
abbrev pub Octets : List ℕ → Type 0
Octets xs = AtMost 255 xs
