use Rattle.std.proofs.Common.{◌≡◌, drop}
use Rattle.bearer.specs.Meaning.{low}
use Rattle.bearer.proofs.questions.all_low.Given as goal

abbrev pub invariant-loop-x : goal.invariant-loop-x
invariant-loop-x l = low l.highest (drop l.x-index l.octets) ≡ low l.highest l.octets
