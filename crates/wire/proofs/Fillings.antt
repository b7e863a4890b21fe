use Rattle.std.proofs.Common.{◌≡◌, ℕ, zero, suc, ◌+◌, ◌≤◌, Bool, true, false, cond, leb, List, [], ◌∷◌, ◌++◌, length, take, drop, sym, refl, ap, ◌∙◌, arith, length-append, length-drop, take-append-drop, length-take, le-leb, leb-true}
use lib.Seq.{take-append_seam}
use Rattle.std.proofs.lemmas.Bool.{false≢true}
use Rattle.std.proofs.lemmas.List.{drop_at}
use Rattle.wire.specs.Header.{Element, elements_in, overrun, filled}
use Rattle.wire.specs.Format.{all_whole, Fills, Filled}
use Rattle.wire.proofs.Walks.{skipped}

pub fills : Fills
fills at [] l = refl
fills at (e ∷ es) l =
    let o = e.octets in
    let tail = o ++ filled es in
    let n = length o in
    let w : n ≤ length tail = omega (arith, length-append o (filled es)) in
    let a = le-leb n (length tail) w in
    let r : elements_in n (at + (2 + n)) tail ≡ es = skipped n (at + (2 + n)) tail w ∙ ap (elements_in 0 (at + (2 + n))) (drop_at o (filled es) n refl) ∙ fills (at + (2 + n)) es l.2 in
    ap (λ b. cond b (record { at = at; kind = e.kind; octets = take n tail; whole = true } ∷ elements_in n (at + (2 + n)) tail) (overrun at ∷ [])) a
    ∙ ap (λ v. record { at = at; kind = e.kind; octets = v; whole = true } ∷ elements_in n (at + (2 + n)) tail) (take-append_seam o (filled es))
    ∙ ap (λ v. record { at = at; kind = e.kind; octets = o; whole = true } ∷ v) r
    ∙ ap (λ v. record { at = v; kind = e.kind; octets = o; whole = true } ∷ es) (sym l.0)
    ∙ ap (λ v. record { at = e.at; kind = e.kind; octets = o; whole = v } ∷ es) (sym l.1)

turn : (b : Bool) (at k n : ℕ) (tail : List ℕ) (es : List Element) → (b ≡ true → n ≤ length tail) → (all_whole es ≡ true → n ≤ length tail → filled es ≡ drop n tail)
    → all_whole (cond b (record { at = at; kind = k; octets = take n tail; whole = true } ∷ es) (overrun at ∷ [])) ≡ true
    → filled (cond b (record { at = at; kind = k; octets = take n tail; whole = true } ∷ es) (overrun at ∷ [])) ≡ k ∷ n ∷ tail
turn true at k n tail es w ih h =
    let g : n ≤ length tail = w refl in
    let s : length (take n tail) ≡ n = omega (arith, length-take n tail) in
    ap (λ v. k ∷ v ∷ (take n tail ++ filled es)) s ∙ ap (λ v. k ∷ n ∷ (take n tail ++ v)) (ih h g) ∙ ap (λ v. k ∷ n ∷ v) (take-append-drop n tail)
turn false at k n tail es w ih h = absurd (false≢true h)

filled_by : (m at : ℕ) (xs : List ℕ) → length xs ≤ m → all_whole (elements_in 0 at xs) ≡ true → filled (elements_in 0 at xs) ≡ xs
filled_by m at [] b h = refl
filled_by m at (k ∷ []) b h = absurd (false≢true h)
filled_by zero at (k ∷ n ∷ tail) b h = absurd (omega arith)
filled_by (suc m) at (k ∷ n ∷ tail) b h =
    turn (leb n (length tail)) at k n tail (elements_in n (at + (2 + n)) tail) (leb-true n (length tail))
    (λ g w. let s = skipped n (at + (2 + n)) tail w in ap filled s ∙ filled_by m (at + (2 + n)) (drop n tail) (omega (arith, length-drop n tail)) (ap all_whole (sym s) ∙ g)) h

pub filled_is : Filled
filled_is at xs h = filled_by (length xs) at xs (omega arith) h
