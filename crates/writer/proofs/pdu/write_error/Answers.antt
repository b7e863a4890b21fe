use Rattle.std.proofs.Common.{◌≡◌, [], ◌∷◌, rules}
use Rattle.wire.specs.Written.{written, error_of}
use Rattle.wire.proofs.Backs.{writes}
use Rattle.writer.proofs.pdu.write_error.Goals as goal

pub returns : goal.returns
returns c =
    let x : c.first_octet.result ∷ c.number.result ∷ [] ≡ written (error_of c.args.code) = search rules in
    writes (error_of c.args.code) _ c.args.out.now _ _ tt x c.write_all.ensures.answer c.write_all.ensures.after
