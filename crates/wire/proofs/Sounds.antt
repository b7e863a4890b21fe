-- No string that reads as a PDU breaks a rule of the format.
use Rattle.std.proofs.Common.{◌≡◌, ℕ, zero, suc, ◌+◌, ◌/◌, ◌%◌, ◌<◌, ◌≤◌, Bool, true, false, cond, not, ◌&&◌, ◌||◌, eqb, leb, List, [], ◌∷◌, ◌++◌, length, take, drop, is_some, Some, None, Option, unwrap_or, sym, refl, ap, ◌∙◌, subst, mod-lt, add-one, one-add, arith, length-drop, take-append-drop, length-take-le, drop-cons, eqb-true, leb-true}
use native.Mathlib.Nat.{mod-add-div'}
use borrow.Author.Tests.{eqb-false}
use Rattle.std.proofs.lemmas.Bool.{and_parts, false≢true}
use Rattle.std.proofs.lemmas.List.{drop-drop}
use Rattle.terms.specs.declared.fault.Layer.TheVariants as layer
use Rattle.terms.specs.Cause.{ask}
use Rattle.terms.specs.Laws.{AllHold}
use Rattle.terms.proofs.Questions.{told_is, told_holds, hold_split}
use Rattle.wire.specs.declared.header.Ports.{Ports}
use Rattle.wire.specs.declared.kind.Kind.TheVariants as kind
use Rattle.wire.specs.declared.code.ErrorCode.TheVariants as error
use Rattle.wire.specs.declared.code.ReleaseCode.TheVariants as release
use Rattle.wire.specs.Code.{error_number, error_numbered, release_number, release_numbered}
use Rattle.wire.specs.Address.{LawfulField, content_fine, content_size, address_fine}
use Rattle.wire.specs.Header.{Element, overrun, filled, elements_in, fine_of, questions_on}
use Rattle.wire.specs.Pdu.{Read, kind_in, more, start_questions, code_questions, code_in, address_questions, field_size, header_size, header_elements, header_found, header_questions, no_ports, body_in, form_of}
use Rattle.wire.specs.Format.{Placed, all_whole, AllFine, opening, header_of, Tells, Stands, Sound}
use Rattle.wire.proofs.Fillings.{filled_is}
use Rattle.wire.proofs.Walks.{skipped}

whole_all : (es : List Element) → AllHold (questions_on es) → all_whole es ≡ true
whole_all [] h = refl
whole_all (e ∷ es) h = ap (λ b. b && all_whole es) (and_parts e.whole (fine_of e.kind e.octets) h.0).0 ∙ whole_all es h.1

fine_all : (es : List Element) → AllHold (questions_on es) → AllFine es
fine_all [] h = tt
fine_all (e ∷ es) h = ((and_parts e.whole (fine_of e.kind e.octets) h.0).1, fine_all es h.1)

-- elements that are whole stand one behind the other
placed_turn : (b : Bool) (at k n : ℕ) (tail : List ℕ) (es : List Element) → (b ≡ true → n ≤ length tail) → (all_whole es ≡ true → n ≤ length tail → Placed (at + (2 + n)) es)
    → all_whole (cond b (record { at = at; kind = k; octets = take n tail; whole = true } ∷ es) (overrun at ∷ [])) ≡ true
    → Placed at (cond b (record { at = at; kind = k; octets = take n tail; whole = true } ∷ es) (overrun at ∷ []))
placed_turn true at k n tail es w ih h =
    let g : n ≤ length tail = w refl in
    let P : ℕ → Type 0 = λ j. Placed (at + (2 + j)) es in
    (refl, refl, subst P (sym (length-take-le n tail g)) (ih h g))
placed_turn false at k n tail es w ih h = absurd (false≢true h)

placed_by : (m at : ℕ) (xs : List ℕ) → length xs ≤ m → all_whole (elements_in 0 at xs) ≡ true → Placed at (elements_in 0 at xs)
placed_by m at [] b h = tt
placed_by m at (k ∷ []) b h = absurd (false≢true h)
placed_by zero at (k ∷ n ∷ tail) b h = absurd (omega arith)
placed_by (suc m) at (k ∷ n ∷ tail) b h =
    placed_turn (leb n (length tail)) at k n tail (elements_in n (at + (2 + n)) tail) (leb-true n (length tail))
    (λ g w. let s = skipped n (at + (2 + n)) tail w in
    let P : List Element → Type 0 = Placed (at + (2 + n)) in
    subst P (sym s) (placed_by m (at + (2 + n)) (drop n tail) (omega (arith, length-drop n tail)) (ap all_whole (sym s) ∙ g))) h

value_is : (o : Option Ports) → is_some o ≡ true → o ≡ Some (unwrap_or o no_ports)
value_is (Some p) h = refl
value_is None h = cc

-- the header at a place, and what stands behind it
header_sound : (at : ℕ) (xs : List ℕ) → AllHold (header_questions at xs)
    → (drop at xs ≡ header_of (header_elements at xs) ++ (body_in at xs).user.octets) × Tells at (header_elements at xs) (body_in at xs)
header_sound at xs h =
    let n = header_size at xs in
    let es = header_elements at xs in
    let ys = drop (at + 1) xs in
    let i : at + 1 + n ≤ length xs = leb-true (at + 1 + n) (length xs) h.0 in
    let both = hold_split (questions_on es) (ask (is_some (header_found at xs).ports) 45 at layer.Header ∷ []) h.1 in
    let w = whole_all es both.0 in
    let f : filled es ≡ take n ys = filled_is (at + 1) (take n ys) w in
    let g : length (filled es) ≡ n = ap length f ∙ length-take-le n ys (omega (arith, i, length-drop (at + 1) xs)) in
    let c : drop at xs ≡ n ∷ ys = drop-cons xs at 0 (omega (arith, i)) ∙ ap (λ k. n ∷ drop k xs) (sym (add-one at)) in
    let r : ys ≡ filled es ++ drop (at + 1 + n) xs = sym (take-append-drop n ys) ∙ ap (λ v. v ++ drop n ys) (sym f) ∙ ap (λ v. filled es ++ v) (drop-drop n (at + 1) xs) in (
      c ∙ ap (λ v. n ∷ v) r ∙ ap (λ v. v ∷ (filled es ++ drop (at + 1 + n) xs)) (sym g),
      record {
        placed = placed_by (length (take n ys)) (at + 1) (take n ys) (omega arith) w;
        fine = fine_all es both.0;
        header = refl;
        ports = value_is (header_found at xs).ports both.1.0;
        segment = refl;
        user = ap (λ k. at + 1 + k) (sym g);
      },
    )

-- the address field at the head of octets
field_sound : (ys : List ℕ) → address_fine ys ≡ true → LawfulField (take (1 + content_size ys) ys) × (1 + content_size ys ≤ length ys)
field_sound [] h = absurd (false≢true h)
field_sound (y ∷ ys) h =
    let n = content_size (y ∷ ys) in
    let both = and_parts (leb (1 + n) (length (y ∷ ys))) (content_fine (y / 32) (take n ys)) h in
    let i : 1 + n ≤ length (y ∷ ys) = leb-true (1 + n) (length (y ∷ ys)) both.0 in
    let t : take (1 + n) (y ∷ ys) ≡ y ∷ take n ys = ap (λ k. take k (y ∷ ys)) (one-add n) in
    let l : length (y ∷ take n ys) ≡ 1 + n = omega (arith, length-take-le n ys (omega (arith, i))) in
    let P : List ℕ → Type 0 = LawfulField in
    (subst P (sym t) (l, both.1), i)

-- the first octet of a type
flag_is : (x k : ℕ) (b : Bool) → x / 2 ≡ k → eqb (x % 2) 1 ≡ b → x ≡ cond b (k + k + 1) (k + k)
flag_is x k true e f = omega (arith, mod-add-div' x 2, eqb-true (x % 2) 1 f)
flag_is x k false e f =
    let l : x % 2 < 2 = mod-lt x (omega arith) in
    let z : x % 2 ≡ 1 → ⊥ = eqb-false (x % 2) 1 f in
    omega (arith, mod-add-div' x 2, l, z)

abbrev Held : ℕ → List ℕ → Type 0
Held k xs = AllHold (form_of k (more xs) xs).questions → (not (more xs) || leb k 2) ≡ true → kind_in xs ≡ k → Stands xs (form_of k (more xs) xs).stands

data_sound : (x : ℕ) (tail : List ℕ) → Held 1 (x ∷ tail)
data_sound x tail h m e =
    let xs = x ∷ tail in
    let b = header_sound 1 xs h in
    (header_elements 1 xs, ap (λ v. v ∷ tail) (flag_is x 1 (more xs) e refl) ∙ ap (λ v. opening kind.Data (more xs) ∷ v) b.0, b.1)

long_sound : (x : ℕ) (tail : List ℕ) → Held 2 (x ∷ tail)
long_sound x tail h m e =
    let xs = x ∷ tail in
    let n = field_size xs in
    let a = take n tail in
    let q = hold_split (address_questions xs) (header_questions (1 + n) xs) h in
    let l = field_sound tail q.0.0 in
    let b = header_sound (1 + n) xs q.1 in
    let k : length a ≡ n = length-take-le n tail l.1 in
    let d : drop n tail ≡ drop (1 + n) xs = drop-drop n 1 xs in
    let es = header_elements (1 + n) xs in
    let w : tail ≡ a ++ (header_of es ++ (body_in (1 + n) xs).user.octets) = sym (take-append-drop n tail) ∙ ap (λ v. a ++ v) (d ∙ b.0) in
    let T : ℕ → Type 0 = λ j. Tells (1 + j) es (body_in (1 + n) xs) in
    (es, ap (λ v. v ∷ tail) (flag_is x 2 (more xs) e refl) ∙ ap (λ v. opening kind.DataLong (more xs) ∷ v) w, refl, l.0, subst T (sym k) b.1)

-- without the flag
unflagged : (b : Bool) → (not b || false) ≡ true → b ≡ false
unflagged true e = sym e
unflagged false e = refl

bare : (x k : ℕ) (b : Bool) → x / 2 ≡ k → eqb (x % 2) 1 ≡ b → (not b || false) ≡ true → x ≡ k + k
bare x k b e f m = flag_is x k b e f ∙ ap (λ v. cond v (k + k + 1) (k + k)) (unflagged b m)

one_octet : (x : ℕ) (tail : List ℕ) → length (x ∷ tail) ≤ 1 → x ∷ tail ≡ x ∷ []
one_octet x [] h = refl
one_octet x (y ∷ ys) h = absurd (omega arith)

ready_sound : (x : ℕ) (tail : List ℕ) → Held 3 (x ∷ tail)
ready_sound x tail h m e = one_octet x tail (leb-true (length (x ∷ tail)) 1 h.1.0) ∙ ap (λ v. v ∷ []) (bare x 3 (more (x ∷ tail)) e refl m)

two_octets : (x : ℕ) (tail : List ℕ) → 2 ≤ length (x ∷ tail) → length (x ∷ tail) ≤ 2 → x ∷ tail ≡ x ∷ code_in (x ∷ tail) ∷ []
two_octets x [] h k = absurd (omega arith)
two_octets x (y ∷ []) h k = refl
two_octets x (y ∷ z ∷ zs) h k = absurd (omega arith)

code_octets_lem : (x k : ℕ) (tail : List ℕ) → AllHold (code_questions (x ∷ tail)) → (not (more (x ∷ tail)) || false) ≡ true → x / 2 ≡ k → x ∷ tail ≡ (k + k) ∷ code_in (x ∷ tail) ∷ []
code_octets_lem x k tail h m e =
    two_octets x tail (leb-true 2 (length (x ∷ tail)) h.0) (leb-true (length (x ∷ tail)) 2 h.1.0) ∙ ap (λ v. v ∷ code_in (x ∷ tail) ∷ []) (bare x k (more (x ∷ tail)) e refl m)

error_code : (n : ℕ) → n ≤ 3 → n ≡ error_number (unwrap_or (error_numbered n) error.Unknown)
error_code zero h = refl
error_code (suc zero) h = refl
error_code (suc (suc zero)) h = refl
error_code (suc (suc (suc zero))) h = refl
error_code (suc (suc (suc (suc n)))) h = absurd (omega arith)

release_code : (n : ℕ) → n ≤ 3 → n ≡ release_number (unwrap_or (release_numbered n) release.Unknown)
release_code zero h = refl
release_code (suc zero) h = refl
release_code (suc (suc zero)) h = refl
release_code (suc (suc (suc zero))) h = refl
release_code (suc (suc (suc (suc n)))) h = absurd (omega arith)

error_sound : (x : ℕ) (tail : List ℕ) → Held 4 (x ∷ tail)
error_sound x tail h m e =
    let c = code_in (x ∷ tail) in
    code_octets_lem x 4 tail h m e ∙ ap (λ v. 8 ∷ v ∷ []) (error_code c (leb-true c 3 h.1.1.0))

release_sound : (x : ℕ) (tail : List ℕ) → Held 5 (x ∷ tail)
release_sound x tail h m e =
    let c = code_in (x ∷ tail) in
    code_octets_lem x 5 tail h m e ∙ ap (λ v. 10 ∷ v ∷ []) (release_code c (leb-true c 3 h.1.1.0))

by_kind : (k : ℕ) (x : ℕ) (tail : List ℕ) → 1 ≤ k → k ≤ 5 → Held k (x ∷ tail)
by_kind zero x tail a b = absurd (omega arith)
by_kind (suc zero) x tail a b = data_sound x tail
by_kind (suc (suc zero)) x tail a b = long_sound x tail
by_kind (suc (suc (suc zero))) x tail a b = ready_sound x tail
by_kind (suc (suc (suc (suc zero)))) x tail a b = error_sound x tail
by_kind (suc (suc (suc (suc (suc zero))))) x tail a b = release_sound x tail
by_kind (suc (suc (suc (suc (suc (suc k)))))) x tail a b = absurd (omega arith)

stands_there : (xs : List ℕ) → AllHold (start_questions xs) → AllHold (form_of (kind_in xs) (more xs) xs).questions → Stands xs (form_of (kind_in xs) (more xs) xs).stands
stands_there [] s h = absurd (false≢true s.0)
stands_there (x ∷ tail) s h =
    let k = kind_in (x ∷ tail) in
    let both = and_parts (leb 1 k) (leb k 5) s.1.1.0 in
    by_kind k x tail (leb-true 1 k both.0) (leb-true k 5 both.1) h s.1.1.1.0 refl

pub sound : Sound
sound xs p e =
    let f = form_of (kind_in xs) (more xs) xs in
    let h = hold_split (start_questions xs) f.questions (told_holds (start_questions xs ++ f.questions) f.stands p e) in
    let i = told_is (start_questions xs ++ f.questions) f.stands p e in
    let P : Read → Type 0 = Stands xs in
    subst P (sym i) (stands_there xs h.0 h.1)
