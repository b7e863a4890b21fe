-- What is asked of an address field, each question with the rule that a no breaks.
use Rattle.std.specs.Prelude.{ℕ, ◌+◌, ◌-◌, ◌/◌, ◌%◌, Bool, cond, not, ◌&&◌, ◌||◌, List, [], ◌∷◌, length, take, drop, ◌==◌, nat_le, slice_index}
use Rattle.terms.specs.Question.{Question}
use Rattle.wire.specs.declared.kind.AddressKind.TheVariants as address
use Rattle.wire.specs.Address.{number_type_fine, content_size}
use Rattle.wire.specs.Kind.{address_kind_number}
use Rattle.addresses.specs.declared.rule.Half.{Half}
use Rattle.addresses.specs.declared.rule.Half.TheVariants as half
use Rattle.addresses.specs.declared.rule.AddressRule.{AddressRule}
use Rattle.addresses.specs.declared.rule.AddressRule.TheVariants as rule

abbrev pub must : {R : Type 0} → Bool → R → Question R
must b r = record { holds = b; otherwise = r }

abbrev pub low_fine : ℕ → Bool
low_fine x = not (x % 16 == 15)

-- 15 beside the last digit of an odd count
abbrev pub filled : (left x : ℕ) → Bool
filled left x = not (left == 1) || x / 16 == 15

abbrev pub high_fine : (left x : ℕ) → Bool
high_fine left x = left == 1 || not (x / 16 == 15)

abbrev pub half_questions : (left x : ℕ) → List (Question Half)
half_questions left x = must (low_fine x) half.LowFifteen ∷ must (filled left x) half.NotFilled ∷ must (high_fine left x) half.HighFifteen ∷ []

-- the octets of `left` digits, of which the first stands at a place of the string
abbrev pub digits_questions : (left place : ℕ) → List ℕ → List (Question AddressRule)
digits_questions left place [] = []
digits_questions left place (x ∷ xs) =
    must (low_fine x) (rule.Digits half.LowFifteen place x) ∷ must (filled left x) (rule.Digits half.NotFilled place x) ∷ must (high_fine left x) (rule.Digits half.HighFifteen place x)
    ∷ digits_questions (left - 2) (place + 1) xs

abbrev pub digit_count : List ℕ → ℕ
digit_count xs = slice_index xs 0

-- digit count 1 to 20, the octet of the number's type, and as many octets as the digits need; the digits begin at place 4
abbrev pub number_questions : List ℕ → List (Question AddressRule)
number_questions xs =
    must (nat_le 2 (length xs)) (rule.NumberShort (length xs)) ∷ must (nat_le 1 (digit_count xs) && nat_le (digit_count xs) 20) (rule.DigitCount (digit_count xs))
    ∷ must (length xs == 2 + (digit_count xs + 1) / 2) (rule.NumberLength (digit_count xs) (length xs)) ∷ must (number_type_fine (slice_index xs 1)) (rule.NumberType (slice_index xs 1))
    ∷ digits_questions (digit_count xs) 4 (drop 2 xs)

abbrev pub content_questions : (kind : ℕ) → List ℕ → List (Question AddressRule)
content_questions kind xs =
    cond (kind == address_kind_number address.Ipv4) (must (length xs == 4) (rule.Ipv4Length (length xs)) ∷ [])
    (cond (kind == address_kind_number address.Ipv6) (must (length xs == 16) (rule.Ipv6Length (length xs)) ∷ []) (number_questions xs))

-- the address octet is there, its type is known, and its octets lie within the string
abbrev pub field_questions : List ℕ → List (Question AddressRule)
field_questions xs =
    must (nat_le 1 (length xs)) rule.Missing ∷ must (nat_le (slice_index xs 0 / 32) (address_kind_number address.Msisdn)) (rule.NoType (slice_index xs 0 / 32))
    ∷ must (nat_le (1 + content_size xs) (length xs)) (rule.Overrun (content_size xs) (length xs - 1)) ∷ content_questions (slice_index xs 0 / 32) (take (content_size xs) (drop 1 xs))
