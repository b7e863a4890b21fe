use Rattle.std.proofs.Common.{refl}
use Rattle.wire.proofs.Backs.{writes}
use Rattle.writer.specs.Payload.{data_message}
use Rattle.writer.proofs.Segments.{segment_lawful}
use Rattle.writer.proofs.pdu.write_data.Goals as goal

pub returns : goal.returns
returns c = writes (data_message c.args.payload) _ c.args.out.now _ _ (segment_lawful c.args.payload.segment) refl c.write_bodied.ensures.answer c.write_bodied.ensures.after
