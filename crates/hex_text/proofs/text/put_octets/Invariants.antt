use Rattle.std.proofs.Common.{◌≡◌, ◌+◌, ◌/◌, ◌≤◌, true, ◌++◌, length, take, drop}
use Rattle.std.specs.Iterator.Adapters.{enumerate_source, enumerate_count}
use Rattle.std.specs.Slice.Iter.{chunks_exact_rest, chunks_exact_size}
use Rattle.hex_text.specs.Hex.{is_hex, octets_in}
use Rattle.hex_text.proofs.text.put_octets.Given as goal

abbrev pub invariant-loop-i : goal.invariant-loop-i
invariant-loop-i l =
    let n = enumerate_count l.i-iterator in
    let left = chunks_exact_rest (enumerate_source l.i-iterator) in
    record {
      done : take n l.out ++ octets_in left ≡ octets_in l.text;
      rest : drop n l.out ≡ drop n l.initial.out;
      hex : is_hex left ≡ true;
      two : chunks_exact_size (enumerate_source l.i-iterator) ≡ 2;
      room : n + length left / 2 ≤ length l.out;
    }
