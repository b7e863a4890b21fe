-- The address that a field tells, and its words.
use Rattle.std.specs.Prelude.{ℕ, ◌+◌, ◌/◌, cond, List, take, drop, Some, None, codes, Option, ◌==◌, nat_lt, slice_index}
use Rattle.wire.specs.declared.kind.AddressKind.TheVariants as address
use Rattle.wire.specs.declared.kind.NumberType.{NumberType}
use Rattle.wire.specs.declared.kind.NumberType.TheVariants as number
use Rattle.wire.specs.Address.{content_size, address_fine}
use Rattle.wire.specs.Kind.{address_kind_number, number_type_octet}
use Rattle.wording.specs.declared.address.Address.{Address}
use Rattle.wording.specs.declared.address.Address.TheVariants.{Ipv4, Ipv6, Msisdn}

-- an address as plain data; the digits of a number stand two to an octet
pub data Told : Type 0 where
  ipv4 : List ℕ → Told
  ipv6 : List ℕ → Told
  msisdn : NumberType → List ℕ → Told

abbrev pub seen : Address → Told
seen (Ipv4 xs) = ipv4 xs.now
seen (Ipv6 xs) = ipv6 xs.now
seen (Msisdn of digits) = msisdn of digits.now

abbrev pub seen_in : Option Address → Option Told
seen_in None = None
seen_in (Some a) = Some (seen a)

-- behind the digit count and the type octet stand the digits
abbrev pub number_in : List ℕ → Told
number_in xs = msisdn (cond (slice_index xs 1 == number_type_octet number.International) number.International number.Unknown) (drop 2 xs)

abbrev pub content_in : (kind : ℕ) → List ℕ → Told
content_in kind xs = cond (kind == address_kind_number address.Ipv4) (ipv4 xs) (cond (kind == address_kind_number address.Ipv6) (ipv6 xs) (number_in xs))

-- the address in a field that is lawful
abbrev pub address_in : List ℕ → Option Told
address_in xs = cond (address_fine xs) (Some (content_in (slice_index xs 0 / 32) (take (content_size xs) (drop 1 xs)))) None

abbrev pub address_name : Told → List ℕ
address_name (ipv4 xs) = codes "IPv4"
address_name (ipv6 xs) = codes "IPv6"
address_name (msisdn of xs) = codes "MSISDN"

abbrev pub address_word : Told → List ℕ
address_word (ipv4 xs) = codes "ipv4"
address_word (ipv6 xs) = codes "ipv6"
address_word (msisdn of xs) = codes "msisdn"

-- the characters of a number: 0 to 9, then *, #, a, b, c
abbrev pub character_of : ℕ → Option ℕ
character_of n =
    cond (nat_lt n 10) (Some (0x30 + n)) (cond (n == 10) (Some 0x2A) (cond (n == 11) (Some 0x23) (cond (n == 12) (Some 0x61) (cond (n == 13) (Some 0x62) (cond (n == 14) (Some 0x63) None)))))
