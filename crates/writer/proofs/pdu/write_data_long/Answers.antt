use Rattle.std.proofs.Common.{ap}
use Rattle.std.specs.Option.{option_map}
use Rattle.wire.specs.declared.kind.Kind.TheVariants.{DataLong}
use Rattle.wire.specs.Format.{opening}
use Rattle.wire.specs.Segment.{numbers_of}
use Rattle.wire.specs.Written.{bodied}
use Rattle.wire.proofs.Backs.{writes}
use Rattle.addresses.specs.Field.{field_of}
use Rattle.writer.specs.Payload.{long_message}
use Rattle.writer.proofs.Segments.{segment_lawful}
use Rattle.writer.proofs.pdu.write_data_long.Goals as goal

pub returns : goal.returns
returns c =
    let p = c.args.payload in
    let x = ap (λ a. bodied (opening DataLong p.more) a p.ports (option_map numbers_of p.segment) p.user.now) c.as_slice.ensures in
    writes (long_message (field_of c.args.address.now) p) _ c.args.out.now _ _ ((c.args.address.now.lawful, segment_lawful p.segment)) x c.write_bodied.ensures.answer c.write_bodied.ensures.after
