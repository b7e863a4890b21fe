-- What is asked of a header, each question with the rule that a no breaks.
use Rattle.std.specs.Prelude.{ℕ, ◌+◌, ◌-◌, cond, List, [], ◌∷◌, length, take, drop, ◌==◌, nat_le, slice_index}
use Rattle.terms.specs.Question.{Question}
use Rattle.wire.specs.Header.{ports_kind, segment_kind}
use Rattle.rules.specs.declared.header_rule.HeaderRule.{HeaderRule}
use Rattle.rules.specs.declared.header_rule.HeaderRule.TheVariants as rule
pub use Rattle.addresses.specs.AddressRules.{must}

-- reference, count and sequence, with 1 <= sequence <= count
abbrev pub segment_questions : List ℕ → List (Question HeaderRule)
segment_questions xs =
    must (length xs == 3) (rule.SegmentLength (length xs)) ∷ must (nat_le 1 (slice_index xs 1)) rule.CountZero ∷ must (nat_le 1 (slice_index xs 2)) rule.SequenceZero
    ∷ must (nat_le (slice_index xs 2) (slice_index xs 1)) (rule.SequenceAbove (slice_index xs 2) (slice_index xs 1)) ∷ []

abbrev pub content_questions : (kind : ℕ) → List ℕ → List (Question HeaderRule)
content_questions kind xs =
    cond (kind == ports_kind) (must (length xs == 4) (rule.PortsLength (length xs)) ∷ []) (cond (kind == segment_kind) (segment_questions xs) [])

-- the element at the head of what is left of a header: a type, a length and that many octets
abbrev pub element_questions : List ℕ → List (Question HeaderRule)
element_questions xs =
    must (nat_le 2 (length xs)) rule.NoLength ∷ must (nat_le (2 + slice_index xs 1) (length xs)) (rule.ElementOverrun (slice_index xs 1) (length xs - 2))
    ∷ content_questions (slice_index xs 0) (take (slice_index xs 1) (drop 2 xs))

-- the length octet at the head: it is there, and as many octets behind it; a header that is wrong and keeps these lacks ports
abbrev pub length_questions : List ℕ → List (Question HeaderRule)
length_questions xs = must (nat_le 1 (length xs)) rule.Missing ∷ must (nat_le (1 + slice_index xs 0) (length xs)) (rule.Overrun (slice_index xs 0) (length xs - 1)) ∷ []
