use Rattle.std.proofs.Common.{◌≡◌, length, take, ap, ◌∙◌, refl, arith}
use Rattle.coded.specs.Strings.{fits, written}
use Rattle.coded.proofs.pile.Coded.encoded.Goals as goal

pub unwrap-n-requires : goal.unwrap-n-requires
unwrap-n-requires g c =
    let me = c.args.self.now in
    let short = fits (g.met.C.Coding.lawful me.coding) (g.B.Bearer.meaning me.below).longest c.args.octets.now c.requires in
    let p = written _ c.args.string.now _ c.encode.result (omega (arith, short, (g.met.B.Bearer.figured me.below).long)) c.encode.ensures.answer c.encode.ensures.after in
    rw p.0 refl

pub returns : goal.returns
returns g c =
    let me = c.args.self.now in
    let xs = g.C.Coding.encoded me.coding c.args.octets.now in
    let short = fits (g.met.C.Coding.lawful me.coding) (g.B.Bearer.meaning me.below).longest c.args.octets.now c.requires in
    let long = (g.met.B.Bearer.figured me.below).long in
    let p = written xs c.args.string.now _ c.encode.result (omega (arith, short, long)) c.encode.ensures.answer c.encode.ensures.after in
    let n : c.unwrap-n.result ≡ length xs = cc (p.0, c.unwrap-n.ensures) in
    ap (λ k. take k c.encode.new.out) n ∙ p.1
