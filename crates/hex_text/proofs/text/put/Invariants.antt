use Rattle.std.proofs.Common.{◌≡◌, ◌*◌, ◌++◌, take, drop}
use Rattle.hex_text.specs.Hex.{hex_of}
use Rattle.hex_text.proofs.text.put.Given as goal

abbrev pub invariant-loop-i : goal.invariant-loop-i
invariant-loop-i l = (take (2 * l.i) l.out ++ hex_of (drop l.i l.octets) ≡ hex_of l.octets) × (drop (2 * l.i) l.out ≡ drop (2 * l.i) l.initial.out)
