use Rattle.std.specs.Prelude.{ℕ, ◌≤◌, List, Result}
use Rattle.std.specs.Result.{result_map_both}
use Rattle.terms.specs.declared.refusal.Refusal.{Refusal}
use Rattle.terms.specs.declared.stop.Stop.{Stop}
use Rattle.terms.specs.declared.stop.Stop.TheVariants.{Refused}
use Rattle.bearer.specs.Meaning.{Meaning, close_answer, close_after}
use Rattle.lines.specs.declared.line.Line.{Ghosts}
use Rattle.dialogue_log.specs.declared.enter.Outcome.{Outcome}
use Rattle.dialogue_log.specs.declared.enter.Outcome.TheVariants.{Taken, Closed, Lost}
use Rattle.dialogue_log.specs.Entry.{Seen, load, close, lose}
use Rattle.dialogue_log.specs.Bring.{brought_answer, brought_place, brought_after}

abbrev pub Fits : Outcome ℕ → Type 0
Fits (Taken n) = n ≤ 152
Fits Closed = Unit {0}
Fits Lost = Unit {0}

-- the dialogue is over, unless the bearer refuses
abbrev pub closed_by : Outcome ℕ → Result (Unit {0}) Refusal → Result (Outcome ℕ) Stop
closed_by over r = result_map_both (λ _. over) Refused r

abbrev pub taken_by : Result ℕ Stop → Result (Outcome ℕ) Stop
taken_by r = result_map_both Taken (λ stop. stop) r

-- a line is brought in and taken by the other side; a close and a loss are the bearer's own
abbrev pub entered_answer : {L : Type 0} → Ghosts L → Seen → Meaning → Result (Outcome ℕ) Stop
entered_answer line (load side raw) m = taken_by (brought_answer line side raw m)
entered_answer line (close side) m = closed_by Closed (close_answer m)
entered_answer line lose m = closed_by Lost (close_answer m)

abbrev pub entered_place : {L : Type 0} → Ghosts L → Seen → List ℕ → Meaning → List ℕ
entered_place line (load side raw) place m = brought_place line side raw place m
entered_place line (close side) place m = place
entered_place line lose place m = place

abbrev pub entered_after : {L : Type 0} → Ghosts L → Seen → Meaning → Meaning
entered_after line (load side raw) m = brought_after line side raw m
entered_after line (close side) m = close_after m
entered_after line lose m = close_after m
