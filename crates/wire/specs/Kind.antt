use Rattle.std.specs.Prelude.{ℕ, cond, List, Some, None, codes, Option, ◌==◌}
use Rattle.wire.specs.declared.kind.Kind.{Kind}
use Rattle.wire.specs.declared.kind.Kind.TheVariants as kind
use Rattle.wire.specs.declared.kind.AddressKind.{AddressKind}
use Rattle.wire.specs.declared.kind.AddressKind.TheVariants as address
use Rattle.wire.specs.declared.kind.NumberType.{NumberType}
use Rattle.wire.specs.declared.kind.NumberType.TheVariants as number

-- the type of a PDU, in bits 4 to 1 of its first octet
abbrev pub kind_number : Kind → ℕ
kind_number kind.Data = 1
kind_number kind.DataLong = 2
kind_number kind.Ready = 3
kind_number kind.Error = 4
kind_number kind.Release = 5

abbrev pub or_else : ℕ → Kind → Option Kind → Option Kind
or_else n k o = cond (n == kind_number k) (Some k) o

-- the type of a PDU that has a number
abbrev pub kind_numbered : ℕ → Option Kind
kind_numbered n = or_else n kind.Data (or_else n kind.DataLong (or_else n kind.Ready (or_else n kind.Error (or_else n kind.Release None))))

-- the name of a type as people say it
abbrev pub pdu_name : Kind → List ℕ
pdu_name kind.Data = codes "Data"
pdu_name kind.DataLong = codes "Data_Long"
pdu_name kind.Ready = codes "RR"
pdu_name kind.Error = codes "Error"
pdu_name kind.Release = codes "RD"

-- the type of an address, in bits 7 to 5 of its address octet
abbrev pub address_kind_number : AddressKind → ℕ
address_kind_number address.Ipv4 = 0
address_kind_number address.Ipv6 = 1
address_kind_number address.Msisdn = 2

-- the type of an address that has a number
abbrev pub address_kind_numbered : ℕ → Option AddressKind
address_kind_numbered n =
    cond (n == address_kind_number address.Ipv4) (Some address.Ipv4) (cond (n == address_kind_number address.Ipv6) (Some address.Ipv6) (cond (n == address_kind_number address.Msisdn) (Some address.Msisdn) None))

-- the octet that tells the type of a number
abbrev pub number_type_octet : NumberType → ℕ
number_type_octet number.Unknown = 0x81
number_type_octet number.International = 0x91

-- the type of a number that an octet tells
abbrev pub number_type_of : ℕ → Option NumberType
number_type_of x = cond (x == number_type_octet number.Unknown) (Some number.Unknown) (cond (x == number_type_octet number.International) (Some number.International) None)
