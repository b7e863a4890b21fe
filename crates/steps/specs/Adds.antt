-- A trace that goes on.
use Rattle.std.specs.Prelude.{◌≡◌, List, ◌++◌, vec_items}
use Rattle.steps.specs.declared.step.Trace.{Trace}
use Rattle.steps.specs.Steps.{Taken, seen_steps}

-- the new trace is of the same string, and has these steps more
abbrev pub Adds : Trace → List Taken → Trace → Type 0
Adds old more new = (new.string.now ≡ old.string.now) × (seen_steps (vec_items new.steps) ≡ seen_steps (vec_items old.steps) ++ more)
