use Rattle.std.proofs.Common.{◌/◌, arith}
use Rattle.coding.proofs.Most.{most_is}
use Rattle.hex_coding.specs.Lawful.{size, hex_lawful}
use Rattle.hex_coding.proofs.shown.HexCoding.most.Goals as goal

pub returns : goal.returns
returns c = most_is size hex_lawful.none hex_lawful.grows c.args.room (c.args.room / 2) (omega arith) (omega arith)
