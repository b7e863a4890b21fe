use Rattle.std.proofs.Common.{◌≡◌, true, sym, arith}
use Rattle.terms.proofs.Decodes.{decode_small, decode_done}
use Rattle.hex_text.specs.Hex.{is_hex, octets_in, unhex}
use Rattle.hex_text.proofs.Hexes.{unhex_some, octets_length}
use Rattle.hex_text.proofs.text.decode.Goals as goal

pub returns-then-text-out : goal.returns-then-text-out
returns-then-text-out c =
    let ys = c.args.text.now in
    let h : is_hex ys ≡ true = sym c.if-not-is_hex.ensures in
    let p = decode_small (unhex ys) (octets_in ys) c.args.out.now _ (unhex_some ys h) (sym (octets_length ys h)) (omega arith) in
    record { answer = p.0; after = p.1 }

pub returns : goal.returns
returns c =
    let ys = c.args.text.now in
    let h : is_hex ys ≡ true = sym c.if-not-is_hex.ensures in
    let p = decode_done (unhex ys) (octets_in ys) c.args.out.now _ _ (unhex_some ys h) (sym (octets_length ys h)) (omega arith) c.put_octets.ensures in
    record { answer = p.0; after = p.1 }
