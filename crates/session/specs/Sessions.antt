-- What a call in a session answers, and what is left of the bearer's meaning.
use Rattle.std.specs.Prelude.{ℕ, List, [], ◌∷◌, Some, None, Ok, Err, Option, Result, ◌==◌}
use Rattle.std.specs.Result.{result_map_both}
use Rattle.terms.specs.declared.refusal.Refusal.{Refusal}
use Rattle.terms.specs.declared.fault.Fault.{Fault}
use Rattle.terms.specs.declared.stop.Stop.{Stop}
use Rattle.terms.specs.declared.stop.Stop.TheVariants.{Refused, Faulty}
use Rattle.terms.specs.Question.{Question, first_no, unless}
use Rattle.terms.specs.Refusal.{must}
use Rattle.bearer.specs.declared.side.Side.{Side}
use Rattle.bearer.specs.Meaning.{Meaning, open_answer, open_after, give_answer, give_after, take_answer, take_place, take_after, close_answer, close_after}
use Rattle.session.specs.declared.state.Session.{Session}
use Rattle.session.specs.declared.state.Speaks.{Speaks}
use Rattle.session.specs.declared.state.Listens.{Listens}

abbrev pub Speaking : Type 0
Speaking = Session Speaks

abbrev pub Listening : Type 0
Listening = Session Listens

-- a side's session in the dialogue of a number
abbrev pub session_in : {T : Type 0} → ℕ → Side → Session T
session_in n side = record { number = n; side = side; turn = record {} }

-- the same side and dialogue, the turn elsewhere
abbrev pub in_turn : {T U : Type 0} → Session T → Session U
in_turn s = session_in s.number s.side

-- is the session's dialogue the bearer's?
abbrev pub number_asks : ℕ → Meaning → List (Question Refusal)
number_asks n m = must (m.number == n) 26 ∷ []

-- the first no comes before the bearer's own answer
abbrev pub before : {A : Type 0} → Option Refusal → Result A Refusal → Result A Refusal
before None r = r
before (Some why) r = Err why

-- the session moves on, or is handed back with the refusal
abbrev pub moved : {A X Y : Type 0} → ℕ → Meaning → Result A Refusal → (A → X) → Y → Result X (Refusal × Y)
moved n m r next stay = result_map_both next (λ why. (why, stay)) (before (first_no (number_asks n m)) r)

abbrev pub listens : Speaking → Listening
listens s = in_turn s

abbrev pub speaks : Listening → Speaking
speaks s = in_turn s

-- a garbled string was taken
abbrev pub taken : Result ℕ Stop → Result (Result ℕ Fault) Refusal
taken (Ok n) = Ok (Ok n)
taken (Err (Faulty f)) = Ok (Err f)
taken (Err (Refused why)) = Err why

-- a session begins in the dialogue that the bearer is then in; a refusal begins none
abbrev pub opens : Side → List ℕ → List ℕ → Meaning → Result Listening Refusal
opens side code xs m = result_map_both (λ _. session_in (open_after side code xs m).number side) (λ why. why) (open_answer side code xs m)

abbrev pub begins : Side → Meaning → Result (Result ℕ Fault × Speaking) Refusal
begins side m = result_map_both (λ heard. (heard, session_in (take_after side m).number side)) (λ why. why) (taken (take_answer side m))

abbrev pub give_in : Speaking → List ℕ → Meaning → Result Listening (Refusal × Speaking)
give_in s xs m = moved s.number m (give_answer s.side xs m) (λ _. listens s) s

abbrev pub give_left : Speaking → List ℕ → Meaning → Meaning
give_left s xs m = unless (number_asks s.number m) (give_after s.side xs m) m

abbrev pub take_in : Listening → Meaning → Result (Result ℕ Fault × Speaking) (Refusal × Listening)
take_in s m = moved s.number m (taken (take_answer s.side m)) (λ heard. (heard, speaks s)) s

abbrev pub place_in : Listening → List ℕ → Meaning → List ℕ
place_in s place m = unless (number_asks s.number m) (take_place s.side place m) place

abbrev pub take_left : Listening → Meaning → Meaning
take_left s m = unless (number_asks s.number m) (take_after s.side m) m

abbrev pub close_in : {T : Type 0} → Session T → Meaning → Result (Unit {0}) (Refusal × Session T)
close_in s m = moved s.number m (close_answer m) (λ _. tt) s

abbrev pub close_left : {T : Type 0} → Session T → Meaning → Meaning
close_left s m = unless (number_asks s.number m) (close_after m) m
