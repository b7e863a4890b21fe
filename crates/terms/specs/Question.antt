-- Ordered questions: a call puts its questions one after the other, and the first no is its answer.
use Rattle.std.specs.Prelude.{ℕ, Bool, cond, List, [], ◌∷◌, Some, None, Ok, Err, Option, Result, ◌==◌}

-- whether it is answered by yes, and what a no gives
pub record Question (E : Type 0) : Type 0 where
  pub holds : Bool
  pub otherwise : E

-- what the first no gives
abbrev pub first_no : {E : Type 0} → List (Question E) → Option E
first_no [] = None
first_no (q ∷ qs) = cond q.holds (first_no qs) (Some q.otherwise)

abbrev pub told_of : {A E : Type 0} → Option E → A → Result A E
told_of None a = Ok a
told_of (Some e) a = Err e

-- the first no, else what stands there
abbrev pub told : {A E : Type 0} → List (Question E) → A → Result A E
told qs a = told_of (first_no qs) a

-- the first no, else nothing
abbrev pub asked : {E : Type 0} → List (Question E) → Result (Unit {0}) E
asked qs = told qs (tt {0})

abbrev pub unless_of : {A E : Type 0} → Option E → A → A → A
unless_of None new old = new
unless_of (Some e) new old = old

-- what is left after a call: the new, unless a question was answered by no; then all is as it was
abbrev pub unless : {A E : Type 0} → List (Question E) → A → A → A
unless qs new old = unless_of (first_no qs) new old

-- the case of a table that has a number; the last one given where none has
abbrev pub numbered : {E : Type 0} → (E → ℕ) → List E → E → ℕ → E
numbered number [] last n = last
numbered number (e ∷ es) last n = cond (number e == n) e (numbered number es last n)
