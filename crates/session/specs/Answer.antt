-- What a side that takes a string and gives one back comes to.
use Rattle.std.specs.Prelude.{ℕ, List, Ok, Err, Result}
use Rattle.std.specs.Result.{result_map_both}
use Rattle.terms.specs.declared.refusal.Refusal.{Refusal}
use Rattle.terms.specs.declared.fault.Fault.{Fault}
use Rattle.bearer.specs.declared.side.Side.{Side}
use Rattle.bearer.specs.Meaning.{Meaning, take_after}
use Rattle.session.specs.Sessions.{Speaking, Listening, begins, give_in, give_left, close_left}

-- what was heard, and the session that then listens; a refusal of either call is the answer
abbrev pub given_back : Result (Result ℕ Fault × Speaking) Refusal → List ℕ → Meaning → Result (Result ℕ Fault × Listening) Refusal
given_back (Ok p) xs m = result_map_both (λ l. (p.0, l)) (λ e. e.0) (give_in p.1 xs m)
given_back (Err why) xs m = Err why

abbrev pub answer_once : Side → List ℕ → Meaning → Result (Result ℕ Fault × Listening) Refusal
answer_once side xs m = given_back (begins side m) xs (take_after side m)

-- a session that is handed back closes the dialogue
abbrev pub closed_if : Result Listening (Refusal × Speaking) → Meaning → Meaning
closed_if (Ok l) m = m
closed_if (Err e) m = close_left e.1 m

abbrev pub left_by : Result (Result ℕ Fault × Speaking) Refusal → List ℕ → Meaning → Meaning
left_by (Ok p) xs m = closed_if (give_in p.1 xs m) (give_left p.1 xs m)
left_by (Err why) xs m = m

abbrev pub once_left : Side → List ℕ → Meaning → Meaning
once_left side xs m = left_by (begins side m) xs (take_after side m)
