-- What was written reads back as what was sent.
use Rattle.std.specs.Prelude.{◌≡◌, ℕ, ◌+◌, ◌≤◌, List, length, take, IfOk, Some, None, Ok, Option, Result}
use Rattle.terms.specs.declared.refusal.Refusal.{Refusal}
use Rattle.terms.specs.Buffer.{answer_of, left_in}
use Rattle.wire.specs.declared.header.Ports.{Ports}
use Rattle.wire.specs.declared.header.SegmentAt.{SegmentAt}
use Rattle.wire.specs.Segment.{Numbers}
use Rattle.wire.specs.Address.{LawfulField}
use Rattle.wire.specs.Pdu as read
use Rattle.wire.specs.Written as sent

-- behind a header's length octet the ports take six octets, and the sequence octet is the fifth of the next element
abbrev pub placed_segment : ℕ → Option Numbers → Option SegmentAt
placed_segment at None = None
placed_segment at (Some q) = Some (record { reference = q.reference; count = q.count; sequence = q.sequence; place = at + 11 })

-- what a header at a place and the octets behind it carry
abbrev pub carried_at : ℕ → Ports → Option Numbers → List ℕ → read.Carried
carried_at at p q u = record { header = at; ports = p; segment = placed_segment at q; user = record { place = at + length (sent.header p q); octets = u } }

-- a message as its reader is to see it
abbrev pub read_as : sent.Message → read.Read
read_as (sent.data_of m p q u) = read.data_of m (carried_at 1 p q u)
read_as (sent.long_of m a p q u) = read.long_of m (record { place = 1; octets = a }) (carried_at (1 + length a) p q u)
read_as sent.ready = read.ready
read_as (sent.error_of c) = read.error_of c
read_as (sent.release_of c) = read.release_of c

abbrev pub LawfulSegment : Option Numbers → Type 0
LawfulSegment None = Unit {0}
LawfulSegment (Some q) = (1 ≤ q.sequence) × (q.sequence ≤ q.count)

-- a message that breaks no rule
abbrev pub Lawful : sent.Message → Type 0
Lawful (sent.data_of m p q u) = LawfulSegment q
Lawful (sent.long_of m a p q u) = LawfulField a × LawfulSegment q
Lawful sent.ready = Unit {0}
Lawful (sent.error_of c) = Unit {0}
Lawful (sent.release_of c) = Unit {0}

abbrev pub ReadsBack : Type 0
ReadsBack = (w : sent.Message) → Lawful w → read.reading (sent.written w) ≡ Ok (read_as w)

-- whoever reads the octets that a writer told has the message
abbrev pub ReadsAs : sent.Message → Result ℕ Refusal → List ℕ → Type 0
ReadsAs w r buffer = IfOk r (λ n. read.reading (take n buffer) ≡ Ok (read_as w))

-- all that a writer promises, of octets that are the message's
pub record Writes (w : sent.Message) (old new : List ℕ) (r : Result ℕ Refusal) : Type 0 where
  pub answer : r ≡ answer_of (sent.written w) old
  pub after : new ≡ left_in (sent.written w) old
  pub back : ReadsAs w r new
