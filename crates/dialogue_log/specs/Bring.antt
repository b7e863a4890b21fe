use Rattle.std.specs.Prelude.{ℕ, List, Some, None, Err, Option, Result}
use Rattle.terms.specs.declared.refusal.Refusal.{Refusal}
use Rattle.terms.specs.declared.stop.Stop.{Stop}
use Rattle.terms.specs.declared.stop.Stop.TheVariants.{Refused}
use Rattle.terms.specs.Question.{first_no, unless}
use Rattle.bearer.specs.declared.side.Side.{Side}
use Rattle.bearer.specs.Side.{other}
use Rattle.bearer.specs.Meaning.{Meaning, take_answer, take_place, take_after}
use Rattle.lines.specs.declared.line.Line.{Ghosts}
use Rattle.lines.specs.State.{load_questions, loaded}

-- a refused load is the answer; else the other side takes
abbrev pub refused_or : {A : Type 0} → Option Refusal → Result A Stop → Result A Stop
refused_or None taken = taken
refused_or (Some r) taken = Err (Refused r)

abbrev pub brought_answer : {L : Type 0} → Ghosts L → Side → List ℕ → Meaning → Result ℕ Stop
brought_answer line side raw m = refused_or (first_no (load_questions line.room side raw m)) (take_answer (other side) (loaded line.read_as side raw m))

abbrev pub brought_place : {L : Type 0} → Ghosts L → Side → List ℕ → List ℕ → Meaning → List ℕ
brought_place line side raw place m = unless (load_questions line.room side raw m) (take_place (other side) place (loaded line.read_as side raw m)) place

abbrev pub brought_after : {L : Type 0} → Ghosts L → Side → List ℕ → Meaning → Meaning
brought_after line side raw m = unless (load_questions line.room side raw m) (take_after (other side) (loaded line.read_as side raw m)) m
