use Rattle.std.proofs.Common.{Some, None, Option}
use Rattle.std.specs.Option.{option_map}
use Rattle.wire.specs.declared.header.Segment.{Segment}
use Rattle.wire.specs.Segment.{numbers_of}
use Rattle.wire.specs.Back.{LawfulSegment}

-- the numbers that can be held are lawful
pub segment_lawful : (o : Option Segment) → LawfulSegment (option_map numbers_of o)
segment_lawful None = tt
segment_lawful (Some s) = (s.low, s.high)
