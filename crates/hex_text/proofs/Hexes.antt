use Rattle.std.proofs.Common.{◌≡◌, ◌≢◌, ℕ, suc, ◌+◌, ◌*◌, ◌/◌, ◌%◌, ◌<◌, ◌≤◌, Bool, true, false, ◌&&◌, eqb, List, [], ◌∷◌, ◌++◌, length, get_or, Some, None, cond, take, drop, set, sym, refl, ap, ◌∙◌, append_assoc, arith, length-set, take-append-drop}
use Rattle.std.proofs.lemmas.List.{append-nil, drop_all, drop_more, drop-drop, drop-set-lt, take_more_set}
use Rattle.std.proofs.lemmas.Bool.{and_parts, ne_eqb}
use Rattle.std.specs.List.{list_all}
use Rattle.hex_text.specs.Hex.{digit_of, hex_of, is_digit, is_hex, octets_in, unhex}

moved : (a b e l : Bool) → ((a && b) && (e && l)) ≡ (e && (a && (b && l)))
moved a b e l = grind arith

-- hexadecimal: an even count, and each a digit
hex_all : (ys : List ℕ) → is_hex ys ≡ (eqb (length ys % 2) 0 && list_all is_digit ys)
hex_all [] = refl
hex_all (c ∷ []) = refl
hex_all (c ∷ d ∷ cs) =
    let e : suc (suc (length cs)) % 2 ≡ length cs % 2 = omega arith in
    rw (e, hex_all cs) (moved (is_digit c) (is_digit d) (eqb (length cs % 2) 0) (list_all is_digit cs))

pub hex_if_even : (ys : List ℕ) → length ys % 2 ≡ 0 → is_hex ys ≡ list_all is_digit ys
hex_if_even ys h = hex_all ys ∙ ap (λ n. eqb n 0 && list_all is_digit ys) h

pub hex_if_odd : (ys : List ℕ) → (length ys % 2 ≢ 0) → is_hex ys ≡ false
hex_if_odd ys h = hex_all ys ∙ ap (λ b. b && list_all is_digit ys) (ne_eqb (length ys % 2) 0 h)

pub hex_length : (xs : List ℕ) → length (hex_of xs) ≡ 2 * length xs
hex_length [] = refl
hex_length (x ∷ xs) = omega (arith, hex_length xs)

-- two octets written behind the first n
two_set : (o : List ℕ) (n a b : ℕ) → n + 1 < length o → take (n + 2) (set (set o n a) (n + 1) b) ≡ take n o ++ (a ∷ b ∷ [])
two_set o n a b h =
    let two : n + 2 ≡ n + 1 + 1 = omega arith in
    let second = take_more_set (set o n a) (n + 1) b (omega (arith, length-set o n a)) in
    let first = take_more_set o n a (omega arith) in
    rw (two, second, first) (append_assoc (take n o) (a ∷ []) (b ∷ []))

-- what is kept of the old behind one place is kept behind a later one
kept : (o old : List ℕ) (n k : ℕ) → drop n o ≡ drop n old → drop (n + k) o ≡ drop (n + k) old
kept o old n k same = sym (drop-drop k n o) ∙ ap (drop k) same ∙ drop-drop k n old

-- one turn of writing: the front grows by two characters, the rest is as it was
pub put_more : (xs o old : List ℕ) (i a b : ℕ) → i < length xs → 2 * i + 1 < length o → a ≡ digit_of (get_or xs i 0 / 16) → b ≡ digit_of (get_or xs i 0 % 16)
    → take (2 * i) o ++ hex_of (drop i xs) ≡ hex_of xs → drop (2 * i) o ≡ drop (2 * i) old
    → (take (2 * (i + 1)) (set (set o (2 * i) a) (2 * i + 1) b) ++ hex_of (drop (i + 1) xs) ≡ hex_of xs) × (drop (2 * (i + 1)) (set (set o (2 * i) a) (2 * i + 1) b) ≡ drop (2 * (i + 1)) old)
put_more xs o old i a b h l e f inv same =
    let two : 2 * (i + 1) ≡ 2 * i + 2 = omega arith in
    let front = two_set o (2 * i) a b l in
    let next = drop_more xs i 0 h in
    let second = drop-set-lt (2 * i + 2) (set o (2 * i) a) (2 * i + 1) b (omega arith) in
    let first = drop-set-lt (2 * i + 2) o (2 * i) a (omega arith) in (
      rw (two, front, append_assoc, e, f) (rw next at inv),
      rw (two, second, first) (kept o old (2 * i) 2 same),
    )

pub put_all : (xs o old : List ℕ) (i : ℕ) → length xs ≤ i → i ≤ length xs → take (2 * i) o ++ hex_of (drop i xs) ≡ hex_of xs → drop (2 * i) o ≡ drop (2 * i) old → o ≡ hex_of xs ++ drop (2 * length xs) old
put_all xs o old i h g inv same =
    let n : length xs ≡ i = omega arith in
    let none = drop_all i xs h in
    sym (take-append-drop (2 * i) o) ∙ rw (same, n, ← (rw (none, append-nil) at inv)) refl

-- reading
pub octets_length : (ys : List ℕ) → is_hex ys ≡ true → length (octets_in ys) ≡ length ys / 2
octets_length [] e = refl
octets_length (c ∷ []) e = cc
octets_length (c ∷ d ∷ cs) e = omega (arith, octets_length cs (and_parts (is_digit c && is_digit d) (is_hex cs) e).1)

pub unhex_some : (ys : List ℕ) → is_hex ys ≡ true → unhex ys ≡ Some (octets_in ys)
unhex_some ys h = ap (λ b. cond b (Some (octets_in ys)) None) h
