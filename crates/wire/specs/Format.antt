-- The format in its own words: which strings are a PDU, and which PDU each is.
use Rattle.std.specs.Prelude.{◌≡◌, ℕ, ◌+◌, Bool, true, false, cond, ◌&&◌, List, [], ◌∷◌, ◌++◌, length, Some, Ok}
use Rattle.wire.specs.declared.kind.Kind.{Kind}
use Rattle.wire.specs.declared.kind.Kind.TheVariants as kind
use Rattle.wire.specs.Kind.{kind_number}
use Rattle.wire.specs.Code.{error_number, release_number}
use Rattle.wire.specs.Address.{LawfulField}
use Rattle.wire.specs.Header.{Element, filled, fine_of, elements_in, ports_kind, segment_kind, ports_of, segment_of, last_of}
use Rattle.wire.specs.Pdu.{Carried, Read, data_of, long_of, ready, error_of, release_of, reading}

-- whole elements, the first at a place and each where the one before ends
abbrev pub Placed : ℕ → List Element → Type 0
Placed at [] = Unit {0}
Placed at (e ∷ es) = (e.at ≡ at) × (e.whole ≡ true) × Placed (at + (2 + length e.octets)) es

abbrev pub all_whole : List Element → Bool
all_whole [] = true
all_whole (e ∷ es) = e.whole && all_whole es

abbrev pub AllFine : List Element → Type 0
AllFine [] = Unit {0}
AllFine (e ∷ es) = (fine_of e.kind e.octets ≡ true) × AllFine es

-- elements that fill a header exactly are the elements in it, and there are no others
abbrev pub Fills : Type 0
Fills = (at : ℕ) (es : List Element) → Placed at es → elements_in 0 at (filled es) ≡ es

abbrev pub Filled : Type 0
Filled = (at : ℕ) (xs : List ℕ) → all_whole (elements_in 0 at xs) ≡ true → filled (elements_in 0 at xs) ≡ xs

-- the first octet: version 0, the type, and more to send in bit 0
abbrev pub opening : Kind → Bool → ℕ
opening k m = cond m (kind_number k + kind_number k + 1) (kind_number k + kind_number k)

-- the length octet and the elements
abbrev pub header_of : List Element → List ℕ
header_of es = length (filled es) ∷ filled es

-- the elements of a header at a place tell what is carried: the last ports, which are required, and the last numbers of a segment
pub record Tells (at : ℕ) (es : List Element) (c : Carried) : Type 0 where
  pub placed : Placed (at + 1) es
  pub fine : AllFine es
  pub header : c.header ≡ at
  pub ports : ports_of (last_of ports_kind es) ≡ Some c.ports
  pub segment : segment_of (last_of segment_kind es) ≡ c.segment
  pub user : c.user.place ≡ at + 1 + length (filled es)

-- the string is the octets of the PDU
abbrev pub Stands : List ℕ → Read → Type 0
Stands xs (data_of m c) = (es : List Element) × (xs ≡ opening kind.Data m ∷ (header_of es ++ c.user.octets)) × Tells 1 es c
Stands xs (long_of m a c) = (es : List Element) × (xs ≡ opening kind.DataLong m ∷ (a.octets ++ (header_of es ++ c.user.octets))) × (a.place ≡ 1) × LawfulField a.octets × Tells (1 + length a.octets) es c
Stands xs ready = xs ≡ opening kind.Ready false ∷ []
Stands xs (error_of c) = xs ≡ opening kind.Error false ∷ error_number c ∷ []
Stands xs (release_of c) = xs ≡ opening kind.Release false ∷ release_number c ∷ []

-- no string that reads as a PDU breaks a rule of the format
abbrev pub Sound : Type 0
Sound = (xs : List ℕ) (p : Read) → reading xs ≡ Ok p → Stands xs p

-- and every string that keeps the rules is read as the PDU that it is
abbrev pub Complete : Type 0
Complete = (xs : List ℕ) (p : Read) → Stands xs p → reading xs ≡ Ok p
