use Rattle.std.proofs.Common.{Ok, Err}
use Rattle.std.proofs.lemmas.Result.{err_from_is_err_and}
use Rattle.wire.proofs.Readings.{start_err}
use Rattle.wire.specs.declared.kind.Kind.TheVariants.{Data, DataLong, Ready, Error, Release}
use Rattle.reader.proofs.Codes.{error_is, release_is}
use Rattle.reader.proofs.Readings.{by_kind}
use Rattle.reader.proofs.pdu.by_kind.Goals as goal

pub returns-in_err-kind : goal.returns-in_err-kind
returns-in_err-kind c =
    let p = err_from_is_err_and c.from_residual.result c.from_residual.ensures.1 in
    rw (p.1, p.2) (start_err c.args.s.now _ c.in_err-kind.ensures)

pub returns-in-Data : goal.returns-in-Data
returns-in-Data c = by_kind c.args.s.now Data c.in_ok-kind.more _ (rw c.in-Data.is at c.in_ok-kind.ensures) c.data.ensures

pub returns-in-DataLong : goal.returns-in-DataLong
returns-in-DataLong c = by_kind c.args.s.now DataLong c.in_ok-kind.more _ (rw c.in-DataLong.is at c.in_ok-kind.ensures) c.data_long.ensures

pub returns-in-Ready : goal.returns-in-Ready
returns-in-Ready c = by_kind c.args.s.now Ready c.in_ok-kind.more _ (rw c.in-Ready.is at c.in_ok-kind.ensures) c.ready.ensures

pub returns-in_ok-code-in-Error : goal.returns-in_ok-code-in-Error
returns-in_ok-code-in-Error c = by_kind c.args.s.now Error c.in_ok-kind.more _ (rw c.in-Error.is at c.in_ok-kind.ensures) (error_is c.args.s.now (Ok c.in_ok-code-in-Error.field-0) c.in_ok-code-in-Error.ensures)

pub returns-in_err-code-in-Error : goal.returns-in_err-code-in-Error
returns-in_err-code-in-Error c =
    let p = err_from_is_err_and c.from_residual-in_err-code-in-Error.result c.from_residual-in_err-code-in-Error.ensures.1 in
    rw (p.1, p.2) (by_kind c.args.s.now Error c.in_ok-kind.more (Err c.in_err-code-in-Error.field-0.0) (rw c.in-Error.is at c.in_ok-kind.ensures) (error_is c.args.s.now (Err c.in_err-code-in-Error.field-0.0) c.in_err-code-in-Error.ensures))

pub returns-in_ok-code-in-Release : goal.returns-in_ok-code-in-Release
returns-in_ok-code-in-Release c = by_kind c.args.s.now Release c.in_ok-kind.more _ (rw c.in-Release.is at c.in_ok-kind.ensures) (release_is c.args.s.now (Ok c.in_ok-code-in-Release.field-0) c.in_ok-code-in-Release.ensures)

pub returns-in_err-code-in-Release : goal.returns-in_err-code-in-Release
returns-in_err-code-in-Release c =
    let p = err_from_is_err_and c.from_residual-in_err-code-in-Release.result c.from_residual-in_err-code-in-Release.ensures.1 in
    rw (p.1, p.2) (by_kind c.args.s.now Release c.in_ok-kind.more (Err c.in_err-code-in-Release.field-0.0) (rw c.in-Release.is at c.in_ok-kind.ensures) (release_is c.args.s.now (Err c.in_err-code-in-Release.field-0.0) c.in_err-code-in-Release.ensures))
