use Rattle.std.specs.Prelude.{ℕ, ◌+◌, ◌-◌, ◌*◌, ◌/◌, ◌%◌, Bool, true, false, cond, ◌&&◌, ◌||◌, List, [], ◌∷◌, Some, None, Option, nat_le, nat_lt}

-- the character of a value from 0 to 15: 0 to 9, A to F
abbrev pub digit_of : ℕ → ℕ
digit_of v = cond (nat_lt v 10) (0x30 + v) (0x37 + v)

-- two characters an octet, the high half first
abbrev pub hex_of : List ℕ → List ℕ
hex_of [] = []
hex_of (x ∷ xs) = digit_of (x / 16) ∷ digit_of (x % 16) ∷ hex_of xs

-- a capital hexadecimal digit, and its value
abbrev pub is_digit : ℕ → Bool
is_digit c = (nat_le 0x30 c && nat_le c 0x39) || (nat_le 0x41 c && nat_le c 0x46)

abbrev pub value_of : ℕ → ℕ
value_of c = cond (nat_le c 0x39) (c - 0x30) (c - 0x37)

abbrev pub digit_value : ℕ → Option ℕ
digit_value c = cond (is_digit c) (Some (value_of c)) None

-- an even count of digits
abbrev pub is_hex : List ℕ → Bool
is_hex [] = true
is_hex (c ∷ []) = false
is_hex (c ∷ d ∷ cs) = (is_digit c && is_digit d) && is_hex cs

abbrev pub octets_in : List ℕ → List ℕ
octets_in [] = []
octets_in (c ∷ []) = []
octets_in (c ∷ d ∷ cs) = (value_of c * 16 + value_of d) ∷ octets_in cs

-- the octets that characters stand for, if they are hexadecimal
abbrev pub unhex : List ℕ → Option (List ℕ)
unhex ys = cond (is_hex ys) (Some (octets_in ys)) None
