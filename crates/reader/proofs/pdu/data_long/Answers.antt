use Rattle.std.proofs.lemmas.Result.{err_from_is_err_and}
use Rattle.wire.proofs.Readings.{long_no, long_wrong, long_is}
use Rattle.reader.proofs.pdu.data_long.Goals as goal

pub returns-in_err-n : goal.returns-in_err-n
returns-in_err-n c =
    let p = err_from_is_err_and c.from_residual.result c.from_residual.ensures.1 in
    rw (p.1, p.2) (long_no c.args.more c.args.s.now _ c.in_err-n.ensures.answer)

pub returns-in_err-body : goal.returns-in_err-body
returns-in_err-body c =
    let p = err_from_is_err_and c.from_residual-in_err-body.result c.from_residual-in_err-body.ensures.1 in
    rw (p.1, p.2) (long_wrong c.args.more c.args.s.now c.in_ok-n.n _ c.in_ok-n.ensures.answer c.in_err-body.ensures)

pub returns : goal.returns
returns c = long_is c.args.more c.args.s.now c.in_ok-n.n _ c.in_ok-n.ensures.answer c.in_ok-body.ensures
