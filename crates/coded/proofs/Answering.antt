-- What writing an encoding and decoding come to, answer by answer.
use Rattle.std.specs.Prelude.{◌≡◌, ℕ, ◌-◌, ◌≤◌, Bool, true, false, cond, List, ◌++◌, length, take, drop, Some, None, Ok, Err, Option, ◌≢◌, nat_le, refl}
use Rattle.std.proofs.Common.{ap, ◌∙◌, arith, le-leb}
use Rattle.std.proofs.Math.Seq.{take-append_seam}
use Rattle.terms.specs.declared.refusal.Refusal.{Refusal}
use Rattle.terms.specs.declared.refusal.Refusal.TheVariants as refusal
use Rattle.terms.specs.declared.stop.Stop.{Stop}
use Rattle.terms.specs.Question.{told_of, unless_of}
use Rattle.terms.specs.Buffer.{answer_of}
use Rattle.terms.specs.Decoded.{count_in, decoded_by, decoded_in}
use Rattle.bearer.specs.Meaning.{text_of, over}
use Rattle.coded.specs.Coded.{string_from}
use Rattle.coded.specs.Strings.{Held}

pub minus_zero : (n : ℕ) → n - 0 ≡ n
minus_zero n = omega arith

-- what was written into a place of octets that it holds
pub put : (b : Bool) (ys old new : List ℕ) (n : ℕ) → nat_le (length ys) (length old) ≡ b → b ≡ true
    → Ok n ≡ told_of (cond b None (Some refusal.Buffer)) (length ys) → new ≡ unless_of (cond b None (Some refusal.Buffer)) (ys ++ drop (length ys) old) old → (n ≡ length ys) × (take n new ≡ ys)
put true ys old new n h t a e =
    let k : n ≡ length ys = cc in
    (k, ap (λ v. take v new) k ∙ ap (take (length ys)) e ∙ take-append_seam ys (drop (length ys) old))
put false ys old new n h t a e = let z : ◌≡◌ {A = ℕ} 0 1 = cc in absurd (omega arith)

refused_not : (b : Bool) (k : ℕ) (r : Refusal) → b ≡ true → Err r ≢ told_of (cond b None (Some refusal.Buffer)) k
refused_not true k r t a = let z : ◌≡◌ {A = ℕ} 0 1 = cc in omega arith
refused_not false k r t a = let z : ◌≡◌ {A = ℕ} 0 1 = cc in omega arith

pub written_not : (ys old : List ℕ) (r : Refusal) → length ys ≤ length old → Err r ≢ answer_of ys old
written_not ys old r h a = refused_not (nat_le (length ys) (length old)) (length ys) r (le-leb (length ys) (length old) h) a

-- what a decode answered where the place holds the result
read_ok : (xs place new : List ℕ) (n : ℕ) (b : Bool) → b ≡ true → Ok n ≡ count_in (cond b None (Some refusal.Buffer)) (length xs) → new ≡ unless_of (cond b None (Some refusal.Buffer)) (xs ++ drop (length xs) place) place
    → (Some (Ok n) ≡ text_of (Some (string_from (Some xs)))) × (new ≡ over (Some (string_from (Some xs))) place)
read_ok xs place new n true t a e = let k : n ≡ length xs = cc in (ap (λ v. Some (Ok v)) k, e)
read_ok xs place new n false t a e = let z : ◌≡◌ {A = ℕ} 0 1 = cc in absurd (omega arith)

pub told_ok : (o : Option (List ℕ)) (place new : List ℕ) (n : ℕ) → Held o place → Ok n ≡ decoded_by o place → new ≡ decoded_in o place
    → (Some (Ok n) ≡ text_of (Some (string_from o))) × (new ≡ over (Some (string_from o)) place)
told_ok None place new n h a e = let z : ◌≡◌ {A = ℕ} 0 1 = cc in absurd (omega arith)
told_ok (Some xs) place new n h a e = read_ok xs place new n (nat_le (length xs) (length place)) (le-leb (length xs) (length place) h) a e

not_refused : (b : Bool) (k : ℕ) (s : Stop) → b ≡ true → Err s ≢ count_in (cond b None (Some refusal.Buffer)) k
not_refused true k s t a = let z : ◌≡◌ {A = ℕ} 0 1 = cc in omega arith
not_refused false k s t a = let z : ◌≡◌ {A = ℕ} 0 1 = cc in omega arith

pub told_err : (o : Option (List ℕ)) (place new : List ℕ) (s : Stop) → Held o place → Err s ≡ decoded_by o place → new ≡ decoded_in o place
    → (Some (Err (record {})) ≡ text_of (Some (string_from o))) × (new ≡ over (Some (string_from o)) place)
told_err None place new s h a e = (refl, e)
told_err (Some xs) place new s h a e = absurd (not_refused (nat_le (length xs) (length place)) (length xs) s (le-leb (length xs) (length place) h) a)
