use Rattle.std.proofs.Common.{Err, ap, ◌∙◌}
use Rattle.std.proofs.lemmas.Result.{err_from_is_err_and}
use Rattle.terms.proofs.Questions.{refused_unless}
use Rattle.bearer.specs.Meaning.{give_questions}
use Rattle.bearer.proofs.Calls.{asks_give, give_refused}
use Rattle.lines.specs.State.{meaning_of}
use Rattle.lines.proofs.shown.CarrierBearer.give.Goals as goal

pub returns-in_err-ask_give : goal.returns-in_err-ask_give
returns-in_err-ask_give g c =
    let m = meaning_of g.L.Line c.args.self.now in
    let xs = c.args.octets.now in
    let side = c.args.side in
    let e = c.in_err-ask_give.ensures ∙ asks_give side xs m c.told.result c.told.ensures in
    let p = err_from_is_err_and c.from_residual.result c.from_residual.ensures.1 in
    let q = give_refused side xs m _ e in
    record { answer = p.1 ∙ ap Err p.2 ∙ q.0; after = q.1; raw = refused_unless (give_questions side xs m) _ (tt {0}) _ _ e }
