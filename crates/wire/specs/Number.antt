-- MSISDNs: a number as text, its digits, and the address field that holds it.
use Rattle.std.specs.Prelude.{ℕ, ◌+◌, ◌-◌, ◌*◌, ◌/◌, Bool, cond, ◌&&◌, List, [], ◌∷◌, length, is_some, Some, None, Option, ◌==◌, nat_le}
use Rattle.std.specs.List.{list_all}
use Rattle.std.specs.Option.{unwrap_or}
use Rattle.wire.specs.declared.kind.AddressKind.TheVariants.{Msisdn}
use Rattle.wire.specs.declared.kind.NumberType.{NumberType}
use Rattle.wire.specs.Kind.{address_kind_number, number_type_octet}

-- the semi-octet of a character: 0 to 9 their value, * is 10, # 11, a 12, b 13, c 14; no other character has one
abbrev pub semi_of : ℕ → Option ℕ
semi_of c =
    cond (nat_le 0x30 c && nat_le c 0x39) (Some (c - 0x30))
    (cond (c == 0x2A) (Some 10) (cond (c == 0x23) (Some 11) (cond (c == 0x61) (Some 12) (cond (c == 0x62) (Some 13) (cond (c == 0x63) (Some 14) None)))))

abbrev pub all_digits : List ℕ → Bool
all_digits t = list_all (λ c. is_some (semi_of c)) t

-- a number is 1 to 20 characters, each of which has a semi-octet
abbrev pub lawful_text : List ℕ → Bool
lawful_text t = nat_le 1 (length t) && (nat_le (length t) 20 && all_digits t)

abbrev pub digit_of : ℕ → ℕ
digit_of c = unwrap_or (semi_of c) 0

abbrev pub digits_of : List ℕ → List ℕ
digits_of [] = []
digits_of (c ∷ cs) = digit_of c ∷ digits_of cs

-- two digits an octet, the first in the low half; 15 fills the high half beside an odd last digit
abbrev pub packed : List ℕ → List ℕ
packed [] = []
packed (d ∷ []) = (d + 15 * 16) ∷ []
packed (d ∷ e ∷ ds) = (d + e * 16) ∷ packed ds

-- address octet, digit count, type of the number, digits
abbrev pub number_field : NumberType → List ℕ → List ℕ
number_field t ds = (address_kind_number Msisdn * 32 + (2 + (length ds + 1) / 2)) ∷ length ds ∷ number_type_octet t ∷ packed ds
