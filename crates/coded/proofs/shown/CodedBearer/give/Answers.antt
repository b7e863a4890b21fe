use Rattle.std.proofs.Common.{Ok, Err, ap, ◌∙◌, arith}
use Rattle.std.proofs.lemmas.Result.{err_from_is_err_and}
use Rattle.bearer.proofs.Calls.{give_refused}
use Rattle.coded.specs.Coded.{meaning_of}
use Rattle.coded.specs.Strings.{octets_from}
use Rattle.coded.specs.Piles.{told_give, gives}
use Rattle.coded.proofs.shown.CodedBearer.give.Goals as goal

pub returns-in_err-ask_give : goal.returns-in_err-ask_give
returns-in_err-ask_give g c =
    let me = c.args.self.now in
    let m = g.B.Bearer.meaning me.below in
    let up = meaning_of g.B.Bearer g.C.Coding me in
    let xs = c.args.octets.now in
    let e = told_give (g.met.C.Coding.lawful me.coding) c.args.side xs m c.told.result (Err c.in_err-ask_give.field-0.0) c.told.ensures c.in_err-ask_give.ensures in
    let p = err_from_is_err_and c.from_residual.result c.from_residual.ensures.1 in
    let q = give_refused c.args.side xs up _ e in
    record { answer = p.1 ∙ ap Err p.2 ∙ q.0; after = q.1 }

pub returns : goal.returns
returns g c =
    let me = c.args.self.now in
    let laws = g.met.C.Coding.lawful me.coding in
    let m = g.B.Bearer.meaning me.below in
    let xs = c.args.octets.now in
    let e = told_give laws c.args.side xs m c.told.result (Ok tt) c.told.ensures c.in_ok-ask_give.ensures in
    let p = gives laws c.args.side xs _ m (g.B.Bearer.meaning c.give.new.self) c.give.result (octets_from xs (λ i. omega (arith, c.type_inv.octets i))) c.encoded-string.ensures e c.give.ensures.answer c.give.ensures.after in
    record { answer = p.0; after = p.1 }
