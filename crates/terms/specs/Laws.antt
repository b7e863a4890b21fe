use Rattle.std.specs.Prelude.{◌≡◌, true, false, List, [], ◌∷◌, ◌++◌, Some, None}
use Rattle.terms.specs.declared.refusal.Refusal.{Refusal}
use Rattle.terms.specs.declared.fault.Fault.{Fault}
use Rattle.terms.specs.Question.{Question, first_no}

abbrev pub AllHold : {E : Type 0} → List (Question E) → Type 0
AllHold [] = Unit {0}
AllHold (q ∷ qs) = (q.holds ≡ true) × AllHold qs

-- some question is answered by no and gives e, and all before it hold
pub record FirstBroken {E : Type 0} (qs : List (Question E)) (e : E) : Type 0 where
  pub before : List (Question E)
  pub broken : Question E
  pub after : List (Question E)
  pub order : qs ≡ before ++ (broken ∷ after)
  pub fine : AllHold before
  pub no : broken.holds ≡ false
  pub gives : broken.otherwise ≡ e

-- what first_no means of questions whose no is an E
pub record InOrder (E : Type 0) : Type 0 where
  pub none : (qs : List (Question E)) → first_no qs ≡ None → AllHold qs
  pub some : (qs : List (Question E)) (e : E) → first_no qs ≡ Some e → FirstBroken qs e
  pub all : (qs : List (Question E)) → AllHold qs → first_no qs ≡ None
  pub first : (qs : List (Question E)) (e : E) → FirstBroken qs e → first_no qs ≡ Some e

abbrev pub QuestionsInOrder : Type 0
QuestionsInOrder = InOrder Fault × InOrder Refusal
