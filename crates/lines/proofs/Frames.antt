-- What is framed is read again.
use Rattle.std.proofs.Common.{◌≡◌, ℕ, ◌+◌, ◌-◌, ◌≤◌, true, cond, ◌&&◌, eqb, leb, List, [], ◌∷◌, ◌++◌, length, get_or, take, Some, None, sym, refl, ap, ◌∙◌, append_assoc, one-add, arith, length-append, le-leb}
use lib.Seq.{take-append_seam, get_or-append_seam}
use Rattle.std.proofs.lemmas.Bool.{and_parts}
use Rattle.bearer.specs.Meaning.{digit, digits}
use Rattle.lines.specs.Frame.{frame, run, middle, bounded, coded, code_digits}

pub run_digits : (code ys : List ℕ) → digits code ≡ true → run (code ++ (0x2A ∷ ys)) ≡ length code
run_digits [] ys h = refl
run_digits (x ∷ xs) ys h =
    let p = and_parts (digit x) (digits xs) h in
    ap (λ b. cond b (1 + run (xs ++ (0x2A ∷ ys))) 0) p.0 ∙ ap (λ n. 1 + n) (run_digits xs ys p.1) ∙ one-add (length xs)

pub middle_frame : (code xs : List ℕ) → middle (frame code xs) ≡ code ++ (0x2A ∷ xs)
middle_frame code xs =
    let body = code ++ (0x2A ∷ xs) in
    let e : code ++ (0x2A ∷ (xs ++ (0x23 ∷ []))) ≡ body ++ (0x23 ∷ []) = sym (append_assoc code (0x2A ∷ xs) (0x23 ∷ [])) in
    let n : length (frame code xs) - 1 - 2 ≡ length body = simp length-append (omega arith) in
    ap (λ k. take k (code ++ (0x2A ∷ (xs ++ (0x23 ∷ []))))) n ∙ ap (take (length body)) e ∙ take-append_seam body (0x23 ∷ [])

last_frame : (code xs : List ℕ) → get_or (frame code xs) (length (frame code xs) - 1) 0 ≡ 0x23
last_frame code xs =
    let front = 0x2A ∷ 0x23 ∷ (code ++ (0x2A ∷ xs)) in
    let e : frame code xs ≡ front ++ (0x23 ∷ []) = ap (λ z. 0x2A ∷ 0x23 ∷ z) (sym (append_assoc code (0x2A ∷ xs) (0x23 ∷ []))) in
    let n : length (frame code xs) - 1 ≡ length front = simp length-append (omega arith) in
    ap (λ k. get_or (frame code xs) k 0) n ∙ ap (λ z. get_or z (length front) 0) e ∙ get_or-append_seam front 0x23 [] 0

bounded_frame : (code xs : List ℕ) → bounded (frame code xs) ≡ true
bounded_frame code xs =
    let n : 3 ≤ length (frame code xs) = simp length-append (omega arith) in
    ap (λ b. b && eqb (get_or (frame code xs) (length (frame code xs) - 1) 0) 0x23) (le-leb 3 (length (frame code xs)) n) ∙ ap (λ z. eqb z 0x23) (last_frame code xs)

pub digits_frame : (code xs : List ℕ) → digits code ≡ true → 2 ≤ length code → length code ≤ 4 → code_digits (frame code xs) ≡ Some (length code)
digits_frame code xs d lo hi =
    let b = bounded_frame code xs in
    let m = middle_frame code xs in
    let r : run (middle (frame code xs)) ≡ length code = ap run m ∙ run_digits code xs d in
    let s : get_or (middle (frame code xs)) (length code) 0 ≡ 0x2A = ap (λ z. get_or z (length code) 0) m ∙ get_or-append_seam code 0x2A xs 0 in
    let t : coded (length code) (middle (frame code xs)) ≡ true = ap (λ p. p && (leb (length code) 4 && eqb (get_or (middle (frame code xs)) (length code) 0) 0x2A)) (le-leb 2 (length code) lo) ∙ ap (λ p. p && eqb (get_or (middle (frame code xs)) (length code) 0) 0x2A) (le-leb (length code) 4 hi) ∙ ap (λ z. eqb z 0x2A) s in
    ap (λ p. cond (p && coded (run (middle (frame code xs))) (middle (frame code xs))) (Some (run (middle (frame code xs)))) None) b
    ∙ ap (λ k. cond (coded k (middle (frame code xs))) (Some k) None) r
    ∙ ap (λ p. cond p (Some (length code)) None) t
