-- What is sent, and the octets that it is written as.
use Rattle.std.specs.Prelude.{ℕ, ◌+◌, Bool, true, false, List, [], ◌∷◌, ◌++◌, Some, None, Option}
use Rattle.wire.specs.declared.kind.Kind.TheVariants as kind
use Rattle.wire.specs.declared.header.Ports.{Ports}
use Rattle.wire.specs.declared.code.ErrorCode.{ErrorCode}
use Rattle.wire.specs.declared.code.ReleaseCode.{ReleaseCode}
use Rattle.wire.specs.Code.{error_number, release_number}
use Rattle.wire.specs.Segment.{Numbers}
use Rattle.wire.specs.Header.{Element, ports_kind, segment_kind, ports_octets}
use Rattle.wire.specs.Format.{opening, header_of}

-- destination and source port, high octet first
abbrev pub ports_element : ℕ → Ports → Element
ports_element at p = record { at = at; kind = ports_kind; octets = ports_octets p; whole = true }

-- reference, count and sequence
abbrev pub segment_elements : ℕ → Option Numbers → List Element
segment_elements at None = []
segment_elements at (Some q) = record { at = at; kind = segment_kind; octets = q.reference ∷ q.count ∷ q.sequence ∷ []; whole = true } ∷ []

-- the elements of a header, the first at `at`: the ports, then the numbers of a segment where there are any
abbrev pub elements_of : ℕ → Ports → Option Numbers → List Element
elements_of at p q = ports_element at p ∷ segment_elements (at + 6) q

abbrev pub header : Ports → Option Numbers → List ℕ
header p q = header_of (elements_of 0 p q)

-- what is sent, as plain data: more to send, the address field, ports, the numbers of a segment, user octets, the code
pub data Message : Type 0 where
  data_of : Bool → Ports → Option Numbers → List ℕ → Message
  long_of : Bool → List ℕ → Ports → Option Numbers → List ℕ → Message
  ready : Message
  error_of : ErrorCode → Message
  release_of : ReleaseCode → Message

-- first octet, address field, header, user octets
abbrev pub bodied : ℕ → List ℕ → Ports → Option Numbers → List ℕ → List ℕ
bodied f a p q u = f ∷ (a ++ (header p q ++ u))

-- the octets of a message
abbrev pub written : Message → List ℕ
written (data_of m p q u) = bodied (opening kind.Data m) [] p q u
written (long_of m a p q u) = bodied (opening kind.DataLong m) a p q u
written ready = opening kind.Ready false ∷ []
written (error_of c) = opening kind.Error false ∷ error_number c ∷ []
written (release_of c) = opening kind.Release false ∷ release_number c ∷ []
