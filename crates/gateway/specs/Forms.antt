-- What is written on a line is read again, and no other line reads as a string.
use Rattle.std.specs.Prelude.{◌≡◌, ℕ, ◌+◌, ◌-◌, ◌≤◌, Bool, true, false, cond, ◌&&◌, List, [], ◌∷◌, ◌++◌, length, take, drop, Some, None, Option, nat_le}
use Rattle.std.proofs.Math.Path.{refl, ap}
use Rattle.std.proofs.Common.{sym, ◌∙◌, append_assoc, arith, take-append-drop, le-leb, leb-true}
use Rattle.std.proofs.Math.ListN.{length-append}
use Rattle.std.proofs.Math.Seq.{take-append_seam}
use Rattle.std.proofs.lemmas.List.{drop-drop, drop_at}
use Rattle.std.proofs.lemmas.Bool.{and_parts}
use Rattle.std.proofs.lemmas.Slice.Eq.{bytes_eq-Decides}
use Rattle.std.specs.Str.{bytes_eq}
use Rattle.bearer.specs.Meaning.{low}
use Rattle.hex_text.specs.Hex.{hex_of, unhex}
use Rattle.terms.specs.AtMost.{Octets}
use Rattle.hex_text.proofs.Laws.{hex_back, hex_only}
use Rattle.gateway.specs.Form.{framed, middle, shortly, between}

octets_low : (xs : List ℕ) → low 255 xs ≡ true → Octets xs
octets_low [] e = tt
octets_low (x ∷ xs) e = let p = and_parts (nat_le x 255) (low 255 xs) e in (omega (arith, leb-true x 255 p.0), octets_low xs p.1)

module _ (h t m : List ℕ) where
  ys : List ℕ
  ys = h ++ (m ++ t)

  len : length ys ≡ length h + length m + length t
  unfolding ys
  len = omega (arith, length-append h (m ++ t), length-append m t)

  back_drop : drop (length ys - length t) ys ≡ t
  unfolding ys
  back_drop =
      let n : length (h ++ (m ++ t)) - length t ≡ length (h ++ m) = omega (arith, length-append h (m ++ t), length-append m t, length-append h m) in
      ap (λ k. drop k (h ++ (m ++ t))) n ∙ ap (drop (length (h ++ m))) (sym (append_assoc h m t)) ∙ drop_at (h ++ m) t (length (h ++ m)) refl

  pub framed_is : framed h t (h ++ (m ++ t)) ≡ true
  unfolding ys
  framed_is =
      let l : length h + length t ≤ length (h ++ (m ++ t)) = omega (arith, length-append h (m ++ t), length-append m t) in
      ap (λ b. b && (bytes_eq (take (length h) (h ++ (m ++ t))) h && bytes_eq (drop (length (h ++ (m ++ t)) - length t) (h ++ (m ++ t))) t)) (le-leb (length h + length t) (length (h ++ (m ++ t))) l)
      ∙ ap (λ v. bytes_eq v h && bytes_eq (drop (length (h ++ (m ++ t)) - length t) (h ++ (m ++ t))) t) (take-append_seam h (m ++ t))
      ∙ ap (λ b. b && bytes_eq (drop (length (h ++ (m ++ t)) - length t) (h ++ (m ++ t))) t) ((bytes_eq-Decides h h).1 refl)
      ∙ ap (λ v. bytes_eq v t) back_drop ∙ (bytes_eq-Decides t t).1 refl

  pub middle_is : middle h t (h ++ (m ++ t)) ≡ m
  middle_is =
      let n : length (h ++ (m ++ t)) - length t - length h ≡ length m = omega (arith, length-append h (m ++ t), length-append m t) in
      ap (λ k. take k (drop (length h) (h ++ (m ++ t)))) n ∙ ap (take (length m)) (drop_at h (m ++ t) (length h) refl) ∙ take-append_seam m t

pub between_back : (h t xs : List ℕ) → length xs ≤ 160 → low 255 xs ≡ true → between h t (h ++ (hex_of xs ++ t)) ≡ Some xs
between_back h t xs l e =
    ap (λ b. cond b (shortly (unhex (middle h t (h ++ (hex_of xs ++ t))))) None) (framed_is h t (hex_of xs))
    ∙ ap (λ v. shortly (unhex v)) (middle_is h t (hex_of xs))
    ∙ ap shortly (hex_back xs (octets_low xs e))
    ∙ ap (λ b. cond b (Some xs) None) (le-leb (length xs) 160 l)

-- a line that is framed is its parts
parts : (h t ys : List ℕ) → framed h t ys ≡ true → ys ≡ h ++ (middle h t ys ++ t)
parts h t ys e =
    let p = and_parts (nat_le (length h + length t) (length ys)) _ e in
    let q = and_parts (bytes_eq (take (length h) ys) h) (bytes_eq (drop (length ys - length t) ys) t) p.1 in
    let l = leb-true (length h + length t) (length ys) p.0 in
    let k = length ys - length t - length h in
    let z : length h + k ≡ length ys - length t = omega (arith, l) in
    let rest : drop (length h) ys ≡ middle h t ys ++ t = sym (take-append-drop k (drop (length h) ys)) ∙ ap (λ v. middle h t ys ++ v) (drop-drop k (length h) ys ∙ ap (λ j. drop j ys) z ∙ (bytes_eq-Decides (drop (length ys - length t) ys) t).0 q.1) in
    sym (take-append-drop (length h) ys) ∙ ap (λ v. v ++ drop (length h) ys) ((bytes_eq-Decides (take (length h) ys) h).0 q.0) ∙ ap (λ v. h ++ v) rest

some_by : (b : Bool) (o : Option (List ℕ)) (xs : List ℕ) → cond b o None ≡ Some xs → (b ≡ true) × (o ≡ Some xs)
some_by true o xs e = (refl, e)
some_by false o xs e = cc

short_is : (o : Option (List ℕ)) (xs : List ℕ) → shortly o ≡ Some xs → (o ≡ Some xs) × (length xs ≤ 160)
short_is None xs e = cc
short_is (Some zs) xs e =
    let p = some_by (nat_le (length zs) 160) (Some zs) xs e in
    let w : zs ≡ xs = let q = p.1 in cc in
    (p.1, omega (arith, leb-true (length zs) 160 p.0, ap length w))

pub between_only : (h t ys xs : List ℕ) → between h t ys ≡ Some xs → ys ≡ h ++ (hex_of xs ++ t)
between_only h t ys xs e =
    let p = some_by (framed h t ys) (shortly (unhex (middle h t ys))) xs e in
    let s = short_is (unhex (middle h t ys)) xs p.1 in
    parts h t ys p.0 ∙ ap (λ v. h ++ (v ++ t)) (hex_only (middle h t ys) xs s.0)

pub between_short : (h t ys xs : List ℕ) → between h t ys ≡ Some xs → length xs ≤ 160
between_short h t ys xs e =
    let p = some_by (framed h t ys) (shortly (unhex (middle h t ys))) xs e in
    (short_is (unhex (middle h t ys)) xs p.1).1
