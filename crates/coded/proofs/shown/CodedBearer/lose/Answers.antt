use Rattle.coded.specs.Piles.{closes}
use Rattle.coded.proofs.shown.CodedBearer.lose.Goals as goal

pub returns : goal.returns
returns g c =
    let laws = g.met.C.Coding.lawful c.args.self.now.coding in
    let p = closes laws (g.B.Bearer.meaning c.args.self.now.below) (g.B.Bearer.meaning c.lose.new.self) c.lose.result c.lose.ensures.answer c.lose.ensures.after in
    record { answer = p.0; after = p.1 }
