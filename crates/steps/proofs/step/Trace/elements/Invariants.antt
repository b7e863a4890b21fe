use Rattle.std.proofs.Common.{◌≡◌, ◌++◌, vec_items}
use Rattle.wire.specs.Elements.{elements_left}
use Rattle.steps.specs.Steps.{seen_steps, before}
use Rattle.steps.proofs.step.Trace.elements.Given as goal

abbrev pub invariant-loop-element : goal.invariant-loop-element
invariant-loop-element l =
    record {
      string : l.self.string.now ≡ l.initial.self.string.now;
      steps : seen_steps (vec_items l.self.steps) ++ before l.until (elements_left l.element-iterator) ≡ seen_steps (vec_items l.initial.self.steps) ++ before l.until (elements_left l.fn.elements);
    }
