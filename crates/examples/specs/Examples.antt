-- Worked examples as one fact. Octets stand in hexadecimal.
use Rattle.std.specs.Prelude.{◌≡◌, ℕ, true, false, List, [], ◌∷◌, ◌++◌, Some, None, Ok, Err, codes, Result}
use Rattle.terms.specs.declared.fault.Fault.{Fault}
use Rattle.terms.specs.declared.fault.Layer.TheVariants as layer
use Rattle.terms.specs.Cause.{fault_of}
use Rattle.wire.specs.declared.kind.NumberType.TheVariants.{International}
use Rattle.wire.specs.Address.{address_fine}
use Rattle.wire.specs.Number.{lawful_text, digits_of, number_field}
use Rattle.wire.specs.Pdu.{Read, reading, long_of}
use Rattle.wire.specs.Written as sent
use Rattle.addresses.specs.Field.{ipv4_field}
use Rattle.bearer.specs.declared.side.Side.TheVariants.{Mobile, Network}
use Rattle.bearer.specs.Meaning.{open_with, under_way, octets}
use Rattle.lines.specs.State.{stands_as, opens}

abbrev faulty : ℕ → ℕ → Result Read Fault
faulty n at = Err (fault_of n at layer.Pdu)

-- a Data_Long to 10.0.0.1
abbrev to_ten : List ℕ
to_ten = 0x04 ∷ 0x04 ∷ 0x0A ∷ 0x00 ∷ 0x00 ∷ 0x01 ∷ 0x06 ∷ 0x05 ∷ 0x04 ∷ 0x23 ∷ 0xF1 ∷ 0xC0 ∷ 0x00 ∷ 0x6F ∷ 0x6B ∷ []

abbrev ten : List ℕ
ten = 10 ∷ 0 ∷ 0 ∷ 1 ∷ []

abbrev okay : List ℕ
okay = codes "ok"

-- the address field of the number 46123
abbrev number : List ℕ
number = 0x45 ∷ 0x05 ∷ 0x91 ∷ 0x64 ∷ 0x21 ∷ 0xF3 ∷ []

-- the Data_Long as it stands when a mobile opens with code 138
abbrev opening : List ℕ
opening = 0x2A ∷ 0x23 ∷ 0x31 ∷ 0x33 ∷ 0x38 ∷ 0x2A ∷ (to_ten ++ (0x23 ∷ []))

pub record Examples : Type 0 where
  pub long-read :
      reading to_ten
      ≡ Ok (long_of false (record { place = 1; octets = ipv4_field ten }) (record { header = 6; ports = record { to = 9201; from = 49152 }; segment = None; user = record { place = 13; octets = okay } }))
  pub long_written : sent.written (sent.long_of false (ipv4_field ten) (record { to = 9201; from = 49152 }) None okay) ≡ to_ten
  pub number_text : lawful_text (codes "46123") ≡ true
  pub number_octets : number_field International (digits_of (codes "46123")) ≡ number
  pub number_passes : address_fine number ≡ true
  pub empty : reading [] ≡ faulty 41 0
  pub version : reading (0x20 ∷ []) ≡ faulty 43 0
  pub opening_stands : stands_as Mobile (codes "138") to_ten ≡ opening
  pub opening_read : opens 255 (Some opening) ≡ open_with (codes "138") (under_way Network (octets to_ten))
