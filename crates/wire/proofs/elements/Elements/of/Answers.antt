use Rattle.std.proofs.Common.{◌≡◌, ◌+◌, ◌-◌, ◌≤◌, Some, None, cond, length, take, drop, sym, ap, ◌∙◌, arith, rules, le-leb}
use Rattle.wire.specs.Header.{elements_in}
use Rattle.wire.specs.Pdu.{header_size, header_elements}
use Rattle.wire.proofs.elements.Elements.of.Goals as goal

pub returns-clause-elements : goal.returns-clause-elements
returns-clause-elements c =
    let xs = c.args.s.now in
    let at = c.args.at in
    let v : c.in_ok-n.field-0.now ≡ header_size at xs = search rules in
    let h : at + 1 + header_size at xs ≤ length xs = omega arith in
    let z : at + 1 + header_size at xs - (at + 1) ≡ header_size at xs = omega arith in
    rw v (ap (λ k. Some (elements_in 0 (at + 1) (take k (drop (at + 1) xs)))) z ∙ sym (ap (λ b. cond b (Some (header_elements at xs)) None) (le-leb (at + 1 + header_size at xs) (length xs) h)))
