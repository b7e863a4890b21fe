use Rattle.std.proofs.Common.{◌==◌, length, ◌∙◌, rules}
use borrow.Author.Tests.{tests}
use Rattle.std.proofs.lemmas.Iterator.Adapters.{YieldsList-from_skip, YieldsList-from_skip_while}
use Rattle.std.proofs.lemmas.Iterator.Consumers.{YieldsList-at}
use Rattle.std.proofs.lemmas.Iterator.Search.{all_from_yields_List}
use Rattle.std.proofs.lemmas.Iterator.Splits.{YieldsList-from_slice_split}
use Rattle.console.specs.Line.{is_space, groups}
use Rattle.console.proofs.Groups.{even, behind_half}
use Rattle.console.proofs.line.is_unbroken.Goals as goal

pub returns : goal.returns
returns c =
    all_from_yields_List (λ w. length w == 0) _ _ _ c.all.ensures.ran
    (YieldsList-from_skip 1
    (YieldsList-at c.skip.ensures.source
    (YieldsList-from_skip_while _ _ _ even _ (λ x b q k. search (rules, tests))
    (YieldsList-at c.skip_while.ensures.source (YieldsList-from_slice_split _ is_space c.args.line.now c.split.ensures.rest c.split.ensures.done c.split.ensures.closure (λ x b q k. search (rules, tests))))
    c.skip_while.ensures.closure c.skip_while.ensures.done_skipping))
    c.skip.ensures.count)
    (λ x b q k. search (rules, tests))
    ∙ behind_half (groups c.args.line.now)
