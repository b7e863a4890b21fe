-- A rule is broken exactly where the field is not lawful.
use Rattle.std.proofs.Common.{◌≡◌, ℕ, ◌+◌, ◌-◌, ◌/◌, ◌%◌, ◌≤◌, Bool, true, false, cond, not, ◌&&◌, ◌||◌, eqb, leb, List, [], ◌∷◌, length, get_or, take, drop, is_some, Some, None, Option, refl, arith, eq-eqb, eqb-true, le-leb, leb-true}
use borrow.Author.Tests.{eqb-false}
use Rattle.std.proofs.lemmas.Bool.Decides.{nat_tests}
use Rattle.terms.specs.Question.{first_no}
use Rattle.wire.specs.Address.{semis_fine, number_type_fine, number_fine, content_fine, content_size, address_fine}
use Rattle.addresses.specs.AddressRules.{digits_questions, number_questions, content_questions, field_questions}

module _ {R : Type 0} where
  half : (l e h s : Bool) (a b c : R) (rest : Option R) → is_some rest ≡ not s → is_some (cond (not l) (cond (not e || h) (cond (e || not h) rest (Some c)) (Some b)) (Some a)) ≡ not ((not l && cond e h (not h)) && s)
  half l e h s a b c rest i = grind arith

  number : (p b c d t s : Bool) (w x y z : R) (rest : Option R) → (d ≡ true → p ≡ true) → is_some rest ≡ not s
      → is_some (cond p (cond (b && c) (cond d (cond t rest (Some z)) (Some y)) (Some x)) (Some w)) ≡ not (b && (c && (d && (t && s))))
  number p b c d t s w x y z rest h i = grind arith

  alone : (b : Bool) (r : R) → is_some (cond b None (Some r)) ≡ not b
  alone b r = grind arith

  field : (p k w f : Bool) (x y z : R) (rest : Option R) → (w ≡ true → p ≡ true) → (k ≡ false → f ≡ false) → (k ≡ true → is_some rest ≡ not f)
      → is_some (cond p (cond k (cond w rest (Some z)) (Some y)) (Some x)) ≡ not (w && f)
  field p k w f x y z rest h g i = grind arith

digits_agree : (left place : ℕ) (xs : List ℕ) → is_some (first_no (digits_questions left place xs)) ≡ not (semis_fine left xs)
digits_agree left place [] = refl
digits_agree left place (x ∷ xs) = half (eqb (x % 16) 15) (eqb left 1) (eqb (x / 16) 15) (semis_fine (left - 2) xs) _ _ _ (first_no (digits_questions (left - 2) (place + 1) xs)) (digits_agree (left - 2) (place + 1) xs)

number_agree : (xs : List ℕ) → is_some (first_no (number_questions xs)) ≡ not (number_fine xs)
number_agree xs =
    let n = get_or xs 0 0 in
    number (leb 2 (length xs)) (leb 1 n) (leb n 20) (eqb (length xs) (2 + (n + 1) / 2)) (number_type_fine (get_or xs 1 0)) (semis_fine n (drop 2 xs)) _ _ _ _ (first_no (digits_questions n 4 (drop 2 xs)))
    (λ e. let s = eqb-true (length xs) (2 + (n + 1) / 2) e in le-leb 2 (length xs) (omega arith)) (digits_agree n 4 (drop 2 xs))

by_kind : (a b c : Bool) (xs : List ℕ) (r s : _) → (a ≡ false → b ≡ false → c ≡ true)
    → is_some (first_no (cond a (record { holds = eqb (length xs) 4; otherwise = r } ∷ []) (cond b (record { holds = eqb (length xs) 16; otherwise = s } ∷ []) (number_questions xs)))) ≡ not (cond a (eqb (length xs) 4) (cond b (eqb (length xs) 16) (cond c (number_fine xs) false)))
by_kind a b c xs r s h = grind (arith, alone, number_agree)

content_agree : (kind : ℕ) (xs : List ℕ) → kind ≤ 2 → is_some (first_no (content_questions kind xs)) ≡ not (content_fine kind xs)
content_agree kind xs h =
    by_kind (eqb kind 0) (eqb kind 1) (eqb kind 2) xs _ _ (λ a b. let p = eqb-false kind 0 a in let q = eqb-false kind 1 b in eq-eqb kind 2 (omega arith))

content_no : (kind : ℕ) (xs : List ℕ) → leb kind 2 ≡ false → content_fine kind xs ≡ false
content_no kind xs h = grind (arith, nat_tests)

pub field_agree : (xs : List ℕ) → is_some (first_no (field_questions xs)) ≡ not (address_fine xs)
field_agree xs =
    let kind = get_or xs 0 0 / 32 in
    let content = take (content_size xs) (drop 1 xs) in
    field (leb 1 (length xs)) (leb kind 2) (leb (1 + content_size xs) (length xs)) (content_fine kind content) _ _ _ (first_no (content_questions kind content))
    (λ e. let s = leb-true (1 + content_size xs) (length xs) e in le-leb 1 (length xs) (omega arith))
    (λ e. content_no kind content e)
    (λ e. content_agree kind content (leb-true kind 2 e))
