use Rattle.std.proofs.Common.{◌≡◌, ◌+◌, ◌≤◌, Some, None, length, get_or, rules}
use Rattle.std.proofs.lemmas.List.{take_rest}
use Rattle.std.proofs.lemmas.Result.{err_from_is_err_and}
use Rattle.wire.specs.Elements.{elements_left}
use Rattle.wire.specs.Pdu.{header_elements}
use Rattle.wire.proofs.Bodies.{wrong, walk_err, no_ports_lem, body_is}
use Rattle.reader.proofs.body.carried_at.Goals as goal

pub returns-in_err-found : goal.returns-in_err-found
returns-in_err-found c =
    let xs = c.args.s.now in
    let e : elements_left c.in_ok-elements.elements ≡ header_elements c.args.at xs = search rules in
    let h : c.args.at + 1 + get_or xs c.args.at 0 ≤ length xs = search rules in
    let p = err_from_is_err_and c.from_residual-in_err-found.result c.from_residual-in_err-found.ensures.1 in
    rw (p.1, p.2) (walk_err c.args.at xs _ h (rw e at c.in_err-found.ensures))

pub returns-in_err-ports : goal.returns-in_err-ports
returns-in_err-ports c =
    let xs = c.args.s.now in
    let e : elements_left c.in_ok-elements.elements ≡ header_elements c.args.at xs = search rules in
    let h : c.args.at + 1 + get_or xs c.args.at 0 ≤ length xs = search rules in
    let n : c.in_ok-found.found.ports ≡ None = search rules in
    let p = err_from_is_err_and c.from_residual-in_err-ports.result c.from_residual-in_err-ports.ensures.1 in
    let w : c.in_err-ports.field-0.0 ≡ wrong c.args.at = search rules in
    rw (p.1, p.2, w) (no_ports_lem c.args.at xs c.in_ok-found.found h (rw e at c.in_ok-found.ensures) n)

pub returns : goal.returns
returns c =
    let xs = c.args.s.now in
    let at = c.args.at in
    let e : elements_left c.in_ok-elements.elements ≡ header_elements at xs = search rules in
    let h : at + 1 + get_or xs at 0 ≤ length xs = search rules in
    let n : c.in_ok-found.found.ports ≡ Some c.in_ok-ports.ports = search rules in
    let k : c.end-end.result ≡ at + 1 + get_or xs at 0 = search rules in
    rw (k, take_rest xs (at + 1 + get_or xs at 0)) (body_is at xs c.in_ok-found.found c.in_ok-ports.ports h (rw e at c.in_ok-found.ensures) n)
