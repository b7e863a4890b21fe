use Rattle.std.proofs.Common.{◌≡◌, ◌≤◌, length, Some, sym, ap, ◌∙◌, arith}
use Rattle.bearer.specs.Side.{other, highest_octet}
use Rattle.bearer.specs.Meaning.{open_with, under_way, octets, with_dialogue, code_octets}
use Rattle.lines.specs.declared.state.Phase.TheVariants.{UnderWay}
use Rattle.lines.specs.State.{heard_of, place_in, on_line, meaning_of}
use Rattle.lines.proofs.Carries.{heard_low, turn_code, means, line_read, low_octets}
use Rattle.lines.proofs.state.Carrier.put_later.Goals as goal

pub returns-clause-after : goal.returns-clause-after
returns-clause-after g c =
    let l = g.L.Line in
    let law = g.met.L.Line.lawful in
    let b = c.args.self.now in
    let m = meaning_of l b in
    let h = highest_octet b.highest in
    let xs = c.args.octets.now in
    let to = other c.args.side in
    let place = place_in (UnderWay to) b.number in
    let at : c.place-place.result ≡ place = c.place-place.ensures ∙ ap (λ v. place_in v.phase v.number) c.gives_from.ensures in
    let new = l.held c.write.new.self in
    let long : length xs ≤ 160 = omega arith in
    let o : l.read_as place new ≡ Some xs = ap (λ q. l.read_as q new) (sym at) ∙ line_read l.room l.written l.read_as law c.place-place.result xs new _ long (low_octets b.highest xs c.requires.low) c.write.ensures.after in
    ap (λ v. means l.read_as v new) c.gives_from.ensures
    ∙ ap (λ v. with_dialogue m b.number (open_with (code_octets b.code) (under_way to v))) (ap (heard_of h) o ∙ heard_low h xs c.requires.short c.requires.low)
    ∙ ap (λ k. with_dialogue m b.number (open_with k (under_way to (octets xs)))) (sym (turn_code b.phase c.args.side (code_octets b.code) h (on_line l b) c.requires.turn))
