use Rattle.std.proofs.Common.{◌≡◌, ℕ, ◌<◌, List, [], length, get_or, refl, arith, rules, Bor}
use Rattle.std.specs.List.{flat_map}
use Rattle.std.proofs.lemmas.List.Folds.{length-flat_map-take}
use Rattle.std.proofs.lemmas.Result.{err_from_is_err_and}
use Rattle.terms.specs.declared.refusal.Refusal.TheVariants as refusal
use Rattle.terms.proofs.Buffers.{too_small}
use Rattle.writer.proofs.buffer.write_all.Goals as goal
use Rattle.writer.proofs.buffer.write_all.Goals.{After-from_residual}

abbrev none : Bor (List ℕ)
none = record { ref_ptr = (0, 0); now = [] }

-- a part that does not fit is behind those that fit
wide : (c : After-from_residual) → length c.args.out.now < length (flat_map (λ part. part.now) c.args.parts.now)
wide c =
    let r : c.loop-part.room < length (get_or c.args.parts.now c.loop-part.part-index none).now = search rules in
    omega (arith, r, c.loop-part.invariant, length-flat_map-take (λ part. part.now) c.args.parts.now c.loop-part.part-index none c.loop-part-test.true)

pub returns-in_err-room-clause-answer : goal.returns-in_err-room-clause-answer
returns-in_err-room-clause-answer c =
    let p = err_from_is_err_and c.from_residual.result c.from_residual.ensures.1 in
    let w : c.in_err-room.field-0.0 ≡ refusal.Buffer = search rules in
    rw (p.1, p.2, w) (too_small (flat_map (λ part. part.now) c.args.parts.now) c.args.out.now _ refl (wide c)).0

pub returns-in_err-room-clause-after : goal.returns-in_err-room-clause-after
returns-in_err-room-clause-after c = (too_small (flat_map (λ part. part.now) c.args.parts.now) c.args.out.now _ refl (wide c)).1

pub slice_bounds-copy_from_slice-end : goal.slice_bounds-copy_from_slice-end
slice_bounds-copy_from_slice-end c =
    let h = length-flat_map-take (λ part. part.now) c.args.parts.now c.loop-part-2.part-index none c.loop-part-2-test.true in
    omega (arith, h, c.loop-part-2.invariant.at, c.loop-part-2.invariant.fits)
