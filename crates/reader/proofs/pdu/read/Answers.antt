use Rattle.std.proofs.Common.{◌∙◌}
use Rattle.wire.proofs.Completes.{complete}
use Rattle.reader.proofs.Readings.{sound_at}
use Rattle.reader.proofs.pdu.read.Goals as goal

pub returns : goal.returns
returns c =
    let e = c.by_kind.ensures in
    let xs = c.args.s.now in
    record { answer = e; sound = sound_at c.by_kind.result xs e; complete = λ p s. e ∙ complete xs p s }
