use Rattle.std.proofs.Common.{Ok, Err, refl, ap}
use Rattle.reader.proofs.Codes.{exactly_none}
use Rattle.reader.proofs.pdu.code.Goals as goal

pub returns-in-Ok : goal.returns-in-Ok
returns-in-Ok g c =
    let n = exactly_none c.args.s.now c.in_ok-exactly.ensures in
    record { uncounted = λ f e. cc; counted = λ e. (Ok c.in-Ok.code, c.in-Ok.ensures, refl) }

pub returns-in-Err : goal.returns-in-Err
returns-in-Err g c =
    let n = exactly_none c.args.s.now c.in_ok-exactly.ensures in
    record { uncounted = λ f e. cc; counted = λ e. (Err c.in-Err.field-0, c.in-Err.ensures, ap Err c.fault.ensures) }
