use Rattle.std.proofs.Common.{Err, ap, refl, ◌∙◌, rules}
use Rattle.std.proofs.lemmas.Result.{err_from_is_err_and}
use Rattle.terms.specs.Question.{first_no}
use Rattle.lines.specs.State.{meaning_of, load_questions}
use Rattle.dialogue_log.proofs.Brings.{refused_is}
use Rattle.dialogue_log.proofs.bring.bring.Goals as goal

pub returns-in_err-load : goal.returns-in_err-load
returns-in_err-load g c =
    let m = meaning_of g.L.Line c.args.b.now in
    let o = refused_is (first_no (load_questions g.L.Line.room c.args.side c.args.raw.now m)) _ c.in_err-load.ensures.answer in
    let p = err_from_is_err_and c.from_residual.result c.from_residual.ensures.1 in
    record { answer = p.1 ∙ ap Err p.2 ∙ rw o refl; within = search rules; place = rw o refl; after = c.load.ensures.after ∙ rw o refl }
