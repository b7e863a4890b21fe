use Rattle.std.proofs.Common.{◌≡◌, true, ◌++◌}
use Rattle.std.specs.Slice.Iter.{chunks_rest, chunks_size}
use Rattle.terms.specs.Octets.{octets_of}
use Rattle.wire.specs.Number.{all_digits, digits_of, packed, number_field}
use Rattle.addresses.proofs.make.number_field.Given as goal

abbrev pub invariant-loop-two : goal.invariant-loop-two
invariant-loop-two l = record {
  can_next : (goal.iterator-loop-two).can_next l.two-iterator;
  is_finite : (goal.iterator-loop-two).is_finite l.two-iterator;
  size : chunks_size l.two-iterator ≡ 2;
  lawful : all_digits (chunks_rest l.two-iterator) ≡ true;
  so_far : octets_of l.octets ++ packed (digits_of (chunks_rest l.two-iterator)) ≡ number_field l.fn.kind (digits_of l.digits);
}
