use Rattle.std.proofs.Common.{◌≡◌, ◌+◌, ◌≤◌, ◌++◌, length, take, drop}
use Rattle.std.specs.List.{flat_map}
use Rattle.writer.proofs.buffer.write_all.Given as goal

abbrev pub invariant-loop-part : goal.invariant-loop-part
invariant-loop-part l = l.room + length (flat_map (λ part. part.now) (take l.part-index l.parts)) ≡ length l.out

abbrev pub invariant-loop-part-2 : goal.invariant-loop-part-2
invariant-loop-part-2 l = record {
  at : l.at ≡ length (flat_map (λ part. part.now) (take l.part-index l.parts));
  fits : length (flat_map (λ part. part.now) l.parts) ≤ length l.initial.out;
  so_far : l.out ≡ flat_map (λ part. part.now) (take l.part-index l.parts) ++ drop l.at l.initial.out;
}
