-- Octets written into a caller's buffer.
use Rattle.std.specs.Prelude.{ℕ, List, [], ◌∷◌, ◌++◌, length, drop, Result, nat_le}
use Rattle.terms.specs.declared.refusal.Refusal.{Refusal}
use Rattle.terms.specs.Question.{Question, told, unless}
use Rattle.terms.specs.Refusal.{must}

-- does the buffer hold the result?
abbrev pub room_questions : List ℕ → List ℕ → List (Question Refusal)
room_questions xs old = must (nat_le (length xs) (length old)) 20 ∷ []

-- how many octets were written
abbrev pub answer_of : List ℕ → List ℕ → Result ℕ Refusal
answer_of xs old = told (room_questions xs old) (length xs)

-- what is written stands first, and the octets beyond are kept; a refusal alters nothing
abbrev pub left_in : List ℕ → List ℕ → List ℕ
left_in xs old = unless (room_questions xs old) (xs ++ drop (length xs) old) old
