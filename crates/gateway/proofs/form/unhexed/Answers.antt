use Rattle.std.proofs.Common.{rules, ◌≡◌, ◌≤◌, length, replicate, cond, take, Some, None, refl, sym, ap, ◌∙◌, arith, le-leb}
use Rattle.std.specs.Option.{option_map}
use Rattle.gateway.proofs.Texts.{decodes_none, decodes_some}
use Rattle.gateway.proofs.form.unhexed.Goals as goal

pub returns-in_err-count : goal.returns-in_err-count
returns-in_err-count c =
    let d = decodes_none c.args.text.now (replicate 160 0) c.decode.new.out c.decode.result refl c.decode.ensures.answer c.decode.ensures.after c.in_err-count.ensures.value in
    ap (option_map _) c.from_residual.ensures ∙ d

pub slice_bounds-octets-end : goal.slice_bounds-octets-end
slice_bounds-octets-end c =
    let d = decodes_some c.args.text.now (replicate 160 0) c.decode.new.out c.decode.result refl c.decode.ensures.answer c.decode.ensures.after c.in_ok-count.count c.in_ok-count.ensures.value in
    let l : length c.decode.new.out ≡ 160 = search rules in
    omega (arith, d.1, l)

pub slice_bounds-of-end : goal.slice_bounds-of-end
slice_bounds-of-end c =
    let d = decodes_some c.args.text.now (replicate 160 0) c.decode.new.out c.decode.result refl c.decode.ensures.answer c.decode.ensures.after c.in_ok-count.count c.in_ok-count.ensures.value in
    d.2

pub returns : goal.returns
returns c =
    let d = decodes_some c.args.text.now (replicate 160 0) c.decode.new.out c.decode.result refl c.decode.ensures.answer c.decode.ensures.after c.in_ok-count.count c.in_ok-count.ensures.value in
    let xs = take c.in_ok-count.count c.decode.new.out in
    let l : length xs ≤ 160 = omega (arith, d.1, d.2) in
    c.of.ensures ∙ ap (λ b. cond b (Some xs) None) (le-leb (length xs) 160 l) ∙ sym d.0
