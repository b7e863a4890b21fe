-- What decoding answers, and what it leaves in the caller's buffer.
use Rattle.std.specs.Prelude.{ℕ, List, length, Some, None, Ok, Err, Option, Result}
use Rattle.terms.specs.declared.refusal.Refusal.{Refusal}
use Rattle.terms.specs.declared.fault.Layer.TheVariants.{Coding}
use Rattle.terms.specs.declared.stop.Stop.{Stop}
use Rattle.terms.specs.declared.stop.Stop.TheVariants.{Refused, Faulty}
use Rattle.terms.specs.Question.{first_no}
use Rattle.terms.specs.Cause.{fault_of}
use Rattle.terms.specs.Buffer.{room_questions, left_in}

abbrev pub count_in : Option Refusal → ℕ → Result ℕ Stop
count_in None n = Ok n
count_in (Some r) n = Err (Refused r)

-- decoding: fault 40 of what is no encoding; then, does the buffer hold the result?
abbrev pub decoded_by : Option (List ℕ) → List ℕ → Result ℕ Stop
decoded_by None out = Err (Faulty (fault_of 40 0 Coding))
decoded_by (Some xs) out = count_in (first_no (room_questions xs out)) (length xs)

abbrev pub decoded_in : Option (List ℕ) → List ℕ → List ℕ
decoded_in None out = out
decoded_in (Some xs) out = left_in xs out
