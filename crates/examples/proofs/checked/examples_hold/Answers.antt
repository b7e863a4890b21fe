use Rattle.std.proofs.Common.{refl}
use Rattle.examples.proofs.checked.examples_hold.Goals as goal

pub returns : goal.returns
returns c = record { long-read = refl; long_written = refl; number_text = refl; number_octets = refl; number_passes = refl; empty = refl; version = refl; opening_stands = refl; opening_read = refl }
