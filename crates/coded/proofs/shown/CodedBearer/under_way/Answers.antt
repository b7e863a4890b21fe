use Rattle.std.proofs.Common.{Some, sym, ap, ◌∙◌}
use Rattle.coded.specs.Piles.{told_above}
use Rattle.coded.proofs.shown.CodedBearer.under_way.Goals as goal

pub returns-in-Ok : goal.returns-in-Ok
returns-in-Ok g c =
    let me = c.args.self.now in
    let p = told_above (g.met.C.Coding.lawful me.coding) (g.B.Bearer.meaning me.below) c.args.place.now _ _ c.under_way.new.place c.in-Ok.n c.decoded.result (ap Some (sym c.in-Ok.is) ∙ c.in_ok-n.ensures.answer) c.under_way.ensures.place c.decoded.ensures.answer c.decoded.ensures.place in
    record { answer = p.0; place = p.1 }
