-- The header: a length octet, and elements that fill the octets it tells.
use Rattle.std.specs.Prelude.{ℕ, zero, suc, ◌+◌, ◌*◌, ◌/◌, ◌%◌, Bool, true, false, cond, ◌&&◌, List, [], ◌∷◌, ◌++◌, length, take, Some, None, Option, ◌==◌, nat_le, slice_index}
use Rattle.terms.specs.declared.fault.Layer.TheVariants.{Header}
use Rattle.terms.specs.declared.fault.Fault.{Fault}
use Rattle.wire.specs.declared.header.Ports.{Ports}
use Rattle.wire.specs.declared.header.SegmentAt.{SegmentAt}
use Rattle.wire.specs.declared.header.Found.{Found}
use Rattle.terms.specs.Question.{Question}
use Rattle.terms.specs.Cause.{ask}

-- an element of a header: the place of its type octet, its type and its octets; `whole` where they lie within the header
pub record Element : Type 0 where
  pub at : ℕ
  pub kind : ℕ
  pub octets : List ℕ
  pub whole : Bool

-- elements one behind the other: each a type, a length and that many octets
abbrev pub filled : List Element → List ℕ
filled [] = []
filled (e ∷ es) = e.kind ∷ length e.octets ∷ (e.octets ++ filled es)

abbrev pub overrun : ℕ → Element
overrun at = record { at = at; kind = 0; octets = []; whole = false }

-- the elements from the left, the first at `at`; the next `skip` octets belong to the element before
abbrev pub elements_in : (skip at : ℕ) → List ℕ → List Element
elements_in zero at [] = []
elements_in zero at (kind ∷ []) = overrun at ∷ []
elements_in zero at (kind ∷ n ∷ tail) =
    cond (nat_le n (length tail)) (record { at = at; kind = kind; octets = take n tail; whole = true } ∷ elements_in n (at + (2 + n)) tail) (overrun at ∷ [])
elements_in (suc k) at [] = []
elements_in (suc k) at (x ∷ tail) = elements_in k at tail

-- the element that holds the ports, and the concatenation element, which holds the numbers of a segment
abbrev pub ports_kind : ℕ
ports_kind = 0x05

abbrev pub segment_kind : ℕ
segment_kind = 0x00

-- the ports have four octets; a segment has three: reference, count and sequence, with 1 <= sequence <= count; of other elements nothing is asked
abbrev pub fine_of : ℕ → List ℕ → Bool
fine_of kind xs =
    cond (kind == ports_kind) (length xs == 4)
    (cond (kind == segment_kind) (length xs == 3 && (nat_le 1 (slice_index xs 1) && (nat_le 1 (slice_index xs 2) && nat_le (slice_index xs 2) (slice_index xs 1)))) true)

-- destination and source port, high octet first
abbrev pub ports_in : List ℕ → Ports
ports_in xs = record { to = slice_index xs 0 * 256 + slice_index xs 1; from = slice_index xs 2 * 256 + slice_index xs 3 }

abbrev pub ports_octets : Ports → List ℕ
ports_octets p = p.to / 256 ∷ p.to % 256 ∷ p.from / 256 ∷ p.from % 256 ∷ []

-- the numbers of a segment, whose element stands at `at`
abbrev pub segment_in : ℕ → List ℕ → SegmentAt
segment_in at xs = record { reference = slice_index xs 0; count = slice_index xs 1; sequence = slice_index xs 2; place = at + 4 }

-- what is found, with one element more
abbrev pub noted : (at kind : ℕ) → List ℕ → Found → Found
noted at kind xs f =
    cond (kind == ports_kind) (record { ports = Some (ports_in xs); segment = f.segment }) (cond (kind == segment_kind) (record { ports = f.ports; segment = Some (segment_in at xs) }) f)

-- each element is whole and fine, else the fault is at its type octet
abbrev pub questions_on : List Element → List (Question Fault)
questions_on [] = []
questions_on (e ∷ es) = ask (e.whole && fine_of e.kind e.octets) 45 e.at Header ∷ questions_on es

abbrev pub or_else : Option Element → Option Element → Option Element
or_else (Some e) o = Some e
or_else None o = o

-- the last element of a type
abbrev pub last_of : ℕ → List Element → Option Element
last_of k [] = None
last_of k (e ∷ es) = or_else (last_of k es) (cond (e.kind == k) (Some e) None)

abbrev pub ports_of : Option Element → Option Ports
ports_of (Some e) = Some (ports_in e.octets)
ports_of None = None

abbrev pub segment_of : Option Element → Option SegmentAt
segment_of (Some e) = Some (segment_in e.at e.octets)
segment_of None = None

-- of a repeated element the last counts
abbrev pub found_in : List Element → Found
found_in es = record { ports = ports_of (last_of ports_kind es); segment = segment_of (last_of segment_kind es) }
