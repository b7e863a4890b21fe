use Rattle.std.proofs.Common.{◌≡◌, ◌+◌, ◌*◌, ◌/◌, ◌≤◌, List, length, sym, refl, ◌∙◌, subst, rules, ◌++◌, ◌∷◌, [], append_assoc, append-nil}
use Rattle.std.specs.Slice.Iter.{chunks_rest}
use Rattle.std.proofs.lemmas.List.{nil_from_length}
use Rattle.terms.specs.Octets.{octets_of}
use Rattle.wire.specs.Address.{LawfulField}
use Rattle.wire.specs.Number.{digits_of, number_field}
use Rattle.wire.proofs.Numbers.{text_few, text_digits, text_lawful}
use Rattle.addresses.proofs.Fields.{cut_lawful, cut_packed, number_begun, number_room}
use Rattle.addresses.proofs.make.number_field.Goals as goal

pub loop-two-init : goal.loop-two-init
loop-two-init c =
    let t = c.args.digits.now in
    let r : chunks_rest c.into_iter-two-iterator.result ≡ t = search rules in
    let h = 2 * 32 + 2 + (length t + 1) / 2 in
    let o : octets_of c.append.new.self ≡ h ∷ length t ∷ c.octet.result ∷ [] = search rules in
    record {
      can_next = search rules;
      is_finite = tt;
      size = search rules;
      lawful = rw r (text_digits t c.requires);
      so_far = rw r (number_begun c.args.kind t _ h c.octet.result o refl c.octet.ensures);
    }

pub pair-requires-clause-lawful : goal.pair-requires-clause-lawful
pair-requires-clause-lawful c = (cut_lawful _ c.in-Some.two.now (chunks_rest c.next.new.self) c.in-Some.ensures.steps.1.0 c.loop-two.invariant.lawful).0

pub unwrap-requires-in-loop-two : goal.unwrap-requires-in-loop-two
unwrap-requires-in-loop-two c =
    let s = c.in-Some.ensures.steps in
    let p = cut_packed _ _ _ c.pair.result s.1.0 (rw c.loop-two.invariant.size at s.1.1) c.pair.ensures in
    let room : length (octets_of c.loop-two.octets) + 1 ≤ 17 = number_room c.args.kind c.args.digits.now _ _ _ (text_few c.args.digits.now c.requires) (rw p at c.loop-two.invariant.so_far) in
    c.push.ensures.fits.1 room

pub loop-two-preserved : goal.loop-two-preserved
loop-two-preserved c =
    let s = c.in-Some.ensures.steps in
    let p = cut_packed _ _ _ c.pair.result s.1.0 (rw c.loop-two.invariant.size at s.1.1) c.pair.ensures in
    let o : octets_of c.push.new.self ≡ octets_of c.loop-two.octets ++ c.pair.result ∷ [] = search rules in
    record {
      can_next = search rules;
      is_finite = tt;
      size = s.0 ∙ c.loop-two.invariant.size;
      lawful = (cut_lawful _ c.in-Some.two.now (chunks_rest c.next.new.self) s.1.0 c.loop-two.invariant.lawful).1;
      so_far = rw (o, append_assoc) (rw p at c.loop-two.invariant.so_far);
    }

pub invariant_of-result : goal.invariant_of-result
invariant_of-result c =
    let n = nil_from_length _ c.in-None.ensures.steps.1.0 in
    let e : octets_of c.loop-two.octets ≡ number_field c.args.kind (digits_of c.args.digits.now) = sym (append-nil _) ∙ rw n at c.loop-two.invariant.so_far in
    let P : List _ → Type 0 = LawfulField in
    record { lawful = subst P (sym e) (text_lawful c.args.kind c.args.digits.now c.requires) }
