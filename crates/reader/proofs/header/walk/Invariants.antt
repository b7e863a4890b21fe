use Rattle.std.proofs.Common.{◌≡◌}
use Rattle.terms.specs.Question.{told}
use Rattle.wire.specs.Elements.{elements_left}
use Rattle.wire.specs.Header.{questions_on, found_in}
use Rattle.wire.proofs.Walks.{judged}
use Rattle.reader.proofs.header.walk.Given as goal

abbrev pub invariant-loop-element : goal.invariant-loop-element
invariant-loop-element l =
    judged l.found (elements_left l.element-iterator)
    ≡ told (questions_on (elements_left l.fn.elements)) (found_in (elements_left l.fn.elements))
