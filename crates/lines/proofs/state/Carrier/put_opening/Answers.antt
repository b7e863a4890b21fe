use Rattle.std.proofs.Common.{◌≡◌, ◌+◌, Some, sym, ap, ◌∙◌}
use Rattle.bearer.specs.Side.{other, highest_octet}
use Rattle.bearer.specs.Meaning.{with_dialogue, code_octets, low}
use Rattle.lines.specs.declared.state.Phase.TheVariants.{Opening}
use Rattle.lines.specs.State.{place_in, meaning_of, stands_as}
use Rattle.lines.proofs.Carries.{opening_heard, means, line_read, low_octets, stands_low, code_short}
use Rattle.lines.proofs.state.Carrier.put_opening.Goals as goal

pub opening-string-requires : goal.opening-string-requires
opening-string-requires g c = (code_short c.args.side c.args.code.now c.requires.lawful, c.requires.short)

pub returns-clause-after : goal.returns-clause-after
returns-clause-after g c =
    let l = g.L.Line in
    let law = g.met.L.Line.lawful in
    let b = c.args.self.now in
    let h = highest_octet b.highest in
    let code = c.args.code.now in
    let xs = c.args.octets.now in
    let side = c.args.side in
    let n = b.number + 1 in
    let place = place_in (Opening (other side)) n in
    let at : c.place-place.result ≡ place = c.place-place.ensures ∙ ap (λ v. place_in v.phase v.number) c.opens_from.ensures in
    let new = l.held c.write.new.self in
    let same : c.as_slice.result.now ≡ stands_as side code xs = c.as_slice.ensures.octets ∙ c.opening-string.ensures in
    let r = line_read l.room l.written l.read_as law c.place-place.result c.as_slice.result.now new _ c.as_slice.ensures.within (ap (low 255) same ∙ stands_low side code xs c.requires.lawful (low_octets b.highest xs c.requires.low)) c.write.ensures.after in
    let o : l.read_as place new ≡ Some (stands_as side code xs) = ap (λ q. l.read_as q new) (sym at) ∙ r ∙ ap Some same in
    ap (λ v. means l.read_as v new) c.opens_from.ensures
    ∙ ap (with_dialogue (meaning_of l b) n) (opening_heard side h code xs (code_octets b.code) _ c.requires.lawful c.requires.short c.requires.low o)
