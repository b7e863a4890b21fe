use Rattle.wire.proofs.Walks.{found_is}
use Rattle.std.proofs.Common.{◌≡◌, ap, rules}
use Rattle.terms.specs.Question.{told}
use Rattle.wire.specs.Elements.{elements_left}
use Rattle.wire.specs.Header.{questions_on}
use Rattle.reader.proofs.header.walk.Goals as goal

pub loop-element-init : goal.loop-element-init
loop-element-init c =
    let es = elements_left c.args.elements in
    let e : c.into_iter-element-iterator.result ≡ c.args.elements = search rules in
    rw e (ap (told (questions_on es)) (found_is es))
