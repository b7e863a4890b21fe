use Rattle.std.proofs.Common.{length, ap, rules}
use Rattle.wire.proofs.Walks.{element_next}
use Rattle.wire.proofs.elements.ElementsIterator.next.Goals as goal

pub returns-in-len2-up-clause-steps : goal.returns-in-len2-up-clause-steps
returns-in-len2-up-clause-steps c = element_next c.args.self.now.rest.now c.args.self.now.place c.in-len2-up.len_at_least c.if-len-tail.true

pub returns-in-len2-up-clause-goes : goal.returns-in-len2-up-clause-goes
returns-in-len2-up-clause-goes c =
    let step = element_next c.args.self.now.rest.now c.args.self.now.place c.in-len2-up.len_at_least c.if-len-tail.true in
    let shorter = ap length step in
    search rules
