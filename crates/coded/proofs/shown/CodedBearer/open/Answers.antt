use Rattle.std.proofs.Common.{Ok, Err, ap, ◌∙◌, arith}
use Rattle.std.proofs.lemmas.Result.{err_from_is_err_and}
use Rattle.bearer.proofs.Calls.{open_refused}
use Rattle.coded.specs.Coded.{meaning_of}
use Rattle.coded.specs.Strings.{octets_from}
use Rattle.coded.specs.Piles.{told_open, opens}
use Rattle.coded.proofs.shown.CodedBearer.open.Goals as goal

pub returns-in_err-ask_open : goal.returns-in_err-ask_open
returns-in_err-ask_open g c =
    let me = c.args.self.now in
    let m = g.B.Bearer.meaning me.below in
    let up = meaning_of g.B.Bearer g.C.Coding me in
    let code = c.args.code.now in
    let xs = c.args.octets.now in
    let e = told_open (g.met.C.Coding.lawful me.coding) c.args.side code xs m c.told.result (Err c.in_err-ask_open.field-0.0) c.told.ensures c.in_err-ask_open.ensures in
    let p = err_from_is_err_and c.from_residual.result c.from_residual.ensures.1 in
    let q = open_refused c.args.side code xs up _ e in
    record { answer = p.1 ∙ ap Err p.2 ∙ q.0; after = q.1 }

pub returns : goal.returns
returns g c =
    let me = c.args.self.now in
    let laws = g.met.C.Coding.lawful me.coding in
    let m = g.B.Bearer.meaning me.below in
    let code = c.args.code.now in
    let xs = c.args.octets.now in
    let e = told_open laws c.args.side code xs m c.told.result (Ok tt) c.told.ensures c.in_ok-ask_open.ensures in
    let p = opens laws c.args.side code xs _ m (g.B.Bearer.meaning c.open.new.self) c.open.result (octets_from xs (λ i. omega (arith, c.type_inv.octets i))) c.encoded-string.ensures e c.open.ensures.answer c.open.ensures.after in
    record { answer = p.0; after = p.1 }
