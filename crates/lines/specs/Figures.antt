-- A carrier's string lies within its figures, and its code has at most four digits.
use Rattle.std.specs.Prelude.{◌≡◌, ℕ, ◌+◌, ◌≤◌, Bool, true, false, cond, ◌&&◌, List, length, take, drop, Some, None, Option, ◌==◌, nat_le, slice_index, refl}
use Rattle.std.proofs.Common.{arith, length-take, leb-true}
use Rattle.std.proofs.Math.Nat.{min-le_left}
use Rattle.std.proofs.lemmas.Bool.{and_parts}
use Rattle.std.specs.Option.{option_map}
use Rattle.bearer.specs.declared.side.Side.TheVariants.{Mobile, Network}
use Rattle.terms.specs.declared.octets.Octets.{Octets}
use Rattle.bearer.specs.Side.{highest_octet}
use Rattle.bearer.specs.Meaning.{Dialogue, String, garbled, octets, low, code_in, string_in, Within, Figured, code_octets}
use Rattle.lines.specs.declared.place.Place.{Place}
use Rattle.lines.specs.declared.state.Phase.{Phase}
use Rattle.lines.specs.declared.state.Phase.TheVariants.{Closed, Turn, Opening, UnderWay}
use Rattle.lines.specs.declared.state.Carrier.{Carrier}
use Rattle.lines.specs.Frame.{middle, bounded, coded, run, code_digits}
use Rattle.lines.specs.State.{heard_of, opens, opens_by, opens_with, dialogue_in, place_in, means_by}

-- a dialogue whose code and string are within bounds
abbrev Fit : ℕ → Dialogue → Type 0
Fit h d = (length (code_in d) ≤ 4) × Within 152 h (string_in d)

take_few : (k : ℕ) (xs : List ℕ) → k ≤ 4 → length (take k xs) ≤ 4
take_few k xs h = omega (arith, length-take k xs, min-le_left k (length xs))

heard_by : (h : ℕ) (xs : List ℕ) (b : Bool) → (nat_le (length xs) 152 && low h xs) ≡ b → Within 152 h (Some (cond b (octets xs) garbled))
heard_by h xs true e = let p = and_parts (nat_le (length xs) 152) (low h xs) e in (leb-true (length xs) 152 p.0, p.1)
heard_by h xs false e = tt

heard_fit : (h : ℕ) (o : Option (List ℕ)) → Within 152 h (Some (heard_of h o))
heard_fit h None = tt
heard_fit h (Some xs) = heard_by h xs (nat_le (length xs) 152 && low h xs) refl

with_fit : (h : ℕ) (code : List ℕ) (s : String) → length code ≤ 4 → Within 152 h (Some s) → Fit h (opens_with code s)
with_fit h code garbled l w = (omega arith, tt)
with_fit h code (octets xs) l w = (l, w)

some_few : (b : Bool) (n k : ℕ) → cond b (Some n) None ≡ Some k → (b ≡ true) × (n ≡ k)
some_few true n k e = (refl, cc)
some_few false n k e = cc

-- a code has at most four digits
digits_few : (zs : List ℕ) (k : ℕ) → code_digits zs ≡ Some k → k ≤ 4
digits_few zs k e =
    let n = run (middle zs) in
    let p = some_few (bounded zs && coded n (middle zs)) n k e in
    let c = (and_parts (bounded zs) (coded n (middle zs)) p.0).1 in
    let d = (and_parts (nat_le 2 n) (nat_le n 4 && slice_index (middle zs) n == 0x2A) c).1 in
    let f = leb-true n 4 (and_parts (nat_le n 4) (slice_index (middle zs) n == 0x2A) d).0 in
    omega (arith, f, p.1)

by_fit : (h : ℕ) (zs : List ℕ) (o : Option ℕ) → code_digits zs ≡ o → Fit h (opens_by h (option_map (λ k. (take k (middle zs), drop (k + 1) (middle zs))) o))
by_fit h zs None e = (omega arith, tt)
by_fit h zs (Some k) e = with_fit h (take k (middle zs)) (heard_of h (Some (drop (k + 1) (middle zs)))) (take_few k (middle zs) (digits_few zs k e)) (heard_fit h (Some (drop (k + 1) (middle zs))))

opens_fit : (h : ℕ) (o : Option (List ℕ)) → Fit h (opens h o)
opens_fit h None = (omega arith, tt)
opens_fit h (Some zs) = by_fit h zs (code_digits zs) refl

phase_fit : (p : Phase) (code : List ℕ) (h : ℕ) (o : Option (List ℕ)) → length code ≤ 4 → Fit h (dialogue_in p code h o)
phase_fit Closed code h o l = (omega arith, tt)
phase_fit (Turn s) code h o l = (l, tt)
phase_fit (Opening Mobile) code h o l = (omega arith, heard_fit h o)
phase_fit (Opening Network) code h o l = opens_fit h o
phase_fit (UnderWay s) code h o l = (l, heard_fit h o)

code_few : (c : Octets 4) → length (code_octets c) ≤ 4
code_few c = take_few c.len c.cells c.within

pub figured : {L : Type 0} (read_as : Place → List ℕ → Option (List ℕ)) (held : L → List ℕ) (b : Carrier L) → Figured (means_by read_as held b)
figured read_as held b =
    let f = phase_fit b.phase (code_octets b.code) (highest_octet b.highest) (read_as (place_in b.phase b.number) (held b.line)) (code_few b.code) in
    record { long = omega arith; code = f.0; within = f.1 }
