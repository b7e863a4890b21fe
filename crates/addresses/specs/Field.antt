use Rattle.std.specs.Prelude.{ℕ, ◌+◌, ◌*◌, ◌/◌, Bool, ◌&&◌, List, ◌∷◌, length, drop, Ok, Err, Result, ◌==◌, slice_index}
use Rattle.terms.specs.declared.refusal.Refusal.{Refusal}
use Rattle.terms.specs.Octets.{octets_of}
use Rattle.wire.specs.declared.kind.AddressKind.TheVariants.{Ipv4, Ipv6}
use Rattle.wire.specs.Kind.{address_kind_number}
use Rattle.wire.specs.Address.{content_size, content_fine}
use Rattle.addresses.specs.declared.field.AddressField.{AddressField}

-- the octets of an address field
abbrev pub field_of : AddressField → List ℕ
field_of f = octets_of f.octets

abbrev pub field_told : Result AddressField Refusal → Result (List ℕ) Refusal
field_told (Ok f) = Ok (field_of f)
field_told (Err r) = Err r

-- the field of an IPv4 and of an IPv6 address
abbrev pub ipv4_field : List ℕ → List ℕ
ipv4_field a = (address_kind_number Ipv4 * 32 + 4) ∷ a

abbrev pub ipv6_field : List ℕ → List ℕ
ipv6_field a = (address_kind_number Ipv6 * 32 + 16) ∷ a

-- octets are an address field: they are as many as the address octet tells, and hold a lawful address
abbrev pub is_field : List ℕ → Bool
is_field xs = length xs == 1 + content_size xs && content_fine (slice_index xs 0 / 32) (drop 1 xs)
