-- The address field: an octet that tells the type of the address and how many octets follow, and those octets.
use Rattle.std.specs.Prelude.{◌≡◌, ℕ, ◌+◌, ◌-◌, ◌/◌, ◌%◌, Bool, true, false, cond, not, ◌&&◌, ◌||◌, List, [], ◌∷◌, length, take, drop, ◌==◌, nat_le, slice_index}
use Rattle.wire.specs.declared.kind.AddressKind.TheVariants.{Ipv4, Ipv6, Msisdn}
use Rattle.wire.specs.declared.kind.NumberType.TheVariants.{Unknown, International}
use Rattle.wire.specs.Kind.{address_kind_number, number_type_octet}

-- an octet of the next two of `left` digits: the low half is a digit; the high half is 15 beside the last digit, else a digit
abbrev pub pair_fine : (left x : ℕ) → Bool
pair_fine left x = not (x % 16 == 15) && cond (left == 1) (x / 16 == 15) (not (x / 16 == 15))

-- of `left` digits, two to an octet, the low half first: none is 15, and 15 stands in the high half of the last octet of an odd count
abbrev pub semis_fine : (left : ℕ) → List ℕ → Bool
semis_fine left [] = true
semis_fine left (x ∷ xs) = pair_fine left x && semis_fine (left - 2) xs

abbrev pub number_type_fine : ℕ → Bool
number_type_fine x = x == number_type_octet Unknown || x == number_type_octet International

-- digit count 1 to 20, then the octet of the number's type, then semi-octets
abbrev pub number_fine : List ℕ → Bool
number_fine xs =
    nat_le 1 (slice_index xs 0) && (nat_le (slice_index xs 0) 20 && (length xs == 2 + (slice_index xs 0 + 1) / 2 && (number_type_fine (slice_index xs 1) && semis_fine (slice_index xs 0) (drop 2 xs))))

abbrev pub content_fine : (kind : ℕ) → List ℕ → Bool
content_fine kind xs =
    cond (kind == address_kind_number Ipv4) (length xs == 4) (cond (kind == address_kind_number Ipv6) (length xs == 16) (cond (kind == address_kind_number Msisdn) (number_fine xs) false))

-- the octets that the address octet tells: its bits 4 to 0
abbrev pub content_size : List ℕ → ℕ
content_size xs = slice_index xs 0 % 32

-- an address field stands at the head of the octets
abbrev pub address_fine : List ℕ → Bool
address_fine xs = nat_le (1 + content_size xs) (length xs) && content_fine (slice_index xs 0 / 32) (take (content_size xs) (drop 1 xs))

-- octets that are an address field, no more and no less
abbrev pub LawfulField : List ℕ → Type 0
LawfulField a = (length a ≡ 1 + content_size a) × (content_fine (slice_index a 0 / 32) (drop 1 a) ≡ true)
