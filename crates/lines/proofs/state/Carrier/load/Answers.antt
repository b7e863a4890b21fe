use Rattle.std.proofs.Common.{Err, ap, ◌∙◌}
use Rattle.std.proofs.lemmas.Result.{err_from_is_err_and}
use Rattle.terms.proofs.Questions.{refused_unless}
use Rattle.lines.specs.State.{meaning_of, load_questions}
use Rattle.lines.proofs.state.Carrier.load.Goals as goal

pub returns-in_err-ask_load : goal.returns-in_err-ask_load
returns-in_err-ask_load g c =
    let e = c.in_err-ask_load.ensures in
    let p = err_from_is_err_and c.from_residual.result c.from_residual.ensures.1 in
    let qs = load_questions g.L.Line.room c.args.side c.args.raw.now (meaning_of g.L.Line c.args.self.now) in
    record { answer = p.1 ∙ ap Err p.2 ∙ e; after = refused_unless qs _ (tt {0}) _ _ e; raw = refused_unless qs _ (tt {0}) _ _ e }
