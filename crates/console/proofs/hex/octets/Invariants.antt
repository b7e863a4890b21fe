use Rattle.std.proofs.Common.{◌≡◌, true, ◌++◌, vec_items}
use Rattle.std.specs.List.{list_all}
use Rattle.std.specs.Slice.Iter.{chunks_exact_rest, chunks_exact_size}
use Rattle.console.specs.Hex.{is_digit, paired}
use Rattle.console.proofs.hex.octets.Given as goal

abbrev pub invariant-loop-pair : goal.invariant-loop-pair
invariant-loop-pair l =
    record {
      done : vec_items l.all ++ paired (chunks_exact_rest l.pair-iterator) ≡ paired l.digits;
      digits : list_all is_digit (chunks_exact_rest l.pair-iterator) ≡ true;
      two : chunks_exact_size l.pair-iterator ≡ 2;
    }
