use Rattle.std.proofs.Common.{rules, Err, ap, ◌∙◌}
use Rattle.std.proofs.lemmas.Result.{err_from_is_err_and}
use Rattle.bearer.proofs.Calls.{asks_take, take_refused}
use Rattle.lines.specs.State.{meaning_of}
use Rattle.lines.proofs.shown.CarrierBearer.take.Goals as goal

pub returns-in_err-ask_take : goal.returns-in_err-ask_take
returns-in_err-ask_take g c =
    let m = meaning_of g.L.Line c.args.self.now in
    let side = c.args.side in
    let p = err_from_is_err_and c.from_residual.result c.from_residual.ensures.1 in
    let q = take_refused side c.args.place.now m _ (c.in_err-ask_take.ensures ∙ asks_take side m c.told.result c.told.ensures) in
    record { answer = p.1 ∙ ap Err p.2 ∙ q.answer; within = search rules; place = q.copied; after = q.after }
