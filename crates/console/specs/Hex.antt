-- Hex digits, and the octets that they write.
use Rattle.std.specs.Prelude.{ℕ, ◌+◌, ◌-◌, ◌*◌, Bool, cond, ◌&&◌, List, [], ◌∷◌, is_some, Some, None, Option, nat_le}
use Rattle.std.specs.Option.{unwrap_or}

abbrev pub between : (low high c : ℕ) → Bool
between low high c = nat_le low c && nat_le c high

-- the value of a character: 0 to 9, A to F, a to f
abbrev pub digit_value : ℕ → Option ℕ
digit_value c = cond (between 0x30 0x39 c) (Some (c - 0x30)) (cond (between 0x41 0x46 c) (Some (c - 0x41 + 10)) (cond (between 0x61 0x66 c) (Some (c - 0x61 + 10)) None))

abbrev pub is_digit : ℕ → Bool
is_digit c = is_some (digit_value c)

-- two digits write an octet, the high one first
abbrev pub octet_of : (high low : ℕ) → ℕ
octet_of high low = unwrap_or (digit_value high) 0 * 16 + unwrap_or (digit_value low) 0

abbrev pub paired : List ℕ → List ℕ
paired [] = []
paired (high ∷ []) = []
paired (high ∷ low ∷ rest) = octet_of high low ∷ paired rest
