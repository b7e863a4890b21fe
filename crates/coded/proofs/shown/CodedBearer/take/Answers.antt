use Rattle.std.proofs.Common.{◌≤◌, length, take, Some, Err, sym, ap, ◌∙◌, arith, length-take-le}
use Rattle.std.proofs.lemmas.Result.{err_from_is_err_and}
use Rattle.bearer.specs.Meaning.{heard_text}
use Rattle.bearer.proofs.Calls.{made_err}
use Rattle.coded.specs.Piles.{takes_err, takes_ok, told_short}
use Rattle.coded.proofs.shown.CodedBearer.take.Goals as goal

pub returns-in_err-n : goal.returns-in_err-n
returns-in_err-n g c =
    let me = c.args.self.now in
    let p = err_from_is_err_and c.from_residual.result c.from_residual.ensures.1 in
    let t = takes_err (g.met.C.Coding.lawful me.coding) c.args.side c.args.place.now (g.B.Bearer.meaning me.below) (g.B.Bearer.meaning c.take.new.self) _ c.in_err-n.ensures.answer c.take.ensures.after in
    record { answer = p.1 ∙ ap Err p.2 ∙ t.answer; within = made_err (λ n. n ≤ 152) c.from_residual.result p.0 p.1; place = t.copied; after = t.after }

pub returns-in_err-decoded : goal.returns-in_err-decoded
returns-in_err-decoded g c =
    let me = c.args.self.now in
    let m = g.B.Bearer.meaning me.below in
    let t = takes_ok (g.met.C.Coding.lawful me.coding) c.args.side c.args.place.now _ _ c.take.new.place m (g.B.Bearer.meaning c.take.new.self) c.in_ok-n.n c.decoded.result c.in_ok-n.ensures.answer c.take.ensures.place c.take.ensures.after c.decoded.ensures.answer c.decoded.ensures.place in
    let p = err_from_is_err_and c.from_residual-in_err-decoded.result c.from_residual-in_err-decoded.ensures.1 in
    record { answer = p.1 ∙ ap Err p.2 ∙ sym (ap (λ v. heard_text (Some v)) c.in_err-decoded.was) ∙ t.answer; within = made_err (λ n. n ≤ 152) _ p.0 p.1; place = t.copied; after = t.after }

pub returns : goal.returns
returns g c =
    let me = c.args.self.now in
    let laws = g.met.C.Coding.lawful me.coding in
    let m = g.B.Bearer.meaning me.below in
    let n = c.in_ok-n.n in
    let string = c.take.new.place in
    let t = takes_ok laws c.args.side c.args.place.now _ _ string m (g.B.Bearer.meaning c.take.new.self) n c.decoded.result c.in_ok-n.ensures.answer c.take.ensures.place c.take.ensures.after c.decoded.ensures.answer c.decoded.ensures.place in
    let short : length (take n string) ≤ 152 = omega (arith, length-take-le n string (omega (arith, c.in_ok-n.ensures.within, c.take.array_long)), c.in_ok-n.ensures.within) in
    let within = told_short laws (take n string) c.decoded.result short c.decoded.ensures.answer in
    record { answer = sym (ap (λ v. heard_text (Some v)) c.in_ok-decoded.was) ∙ t.answer; within = rw c.in_ok-decoded.was at within; place = t.copied; after = t.after }
