use Rattle.std.specs.Prelude.{ℕ, List}
use Rattle.std.specs.Option.{option_map}
use Rattle.wire.specs.Segment.{numbers_of}
use Rattle.wire.specs.Written.{Message, data_of, long_of}
use Rattle.writer.specs.declared.payload.Payload.{Payload}

-- the message that a payload is, without an address and with an address field
abbrev pub data_message : Payload → Message
data_message p = data_of p.more p.ports (option_map numbers_of p.segment) p.user.now

abbrev pub long_message : List ℕ → Payload → Message
long_message a p = long_of p.more a p.ports (option_map numbers_of p.segment) p.user.now
