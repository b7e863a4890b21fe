use Rattle.std.proofs.Common.{arith}
use Rattle.coded.specs.Strings.{held, told}
use Rattle.coded.proofs.pile.Coded.decoded.Goals as goal

pub returns : goal.returns
returns g c =
    let laws = g.met.C.Coding.lawful c.args.self.now.coding in
    let room = held laws c.args.text.now c.args.place.now (omega (arith, c.requires)) in
    let p = told _ _ c.args.place.now _ c.decode.result c.map_err.result room c.decode.ensures.answer c.decode.ensures.after c.map_err.ensures.cases c.map_err.ensures.variant in
    record { answer = p.0; place = p.1 }
