-- What a call that writes octets at the head of a buffer answers and leaves, by whether there is room.
use Rattle.std.proofs.Common.{◌≡◌, ℕ, ◌<◌, ◌≤◌, true, false, cond, leb, List, ◌++◌, length, drop, Some, None, Ok, Err, sym, ap, ◌∙◌, arith, le-leb}
use borrow.Author.Tests.{lt-leb}
use Rattle.terms.specs.declared.refusal.Refusal.TheVariants as refusal
use Rattle.terms.specs.Question.{told_of, unless_of}
use Rattle.terms.specs.Buffer.{answer_of, left_in}

pub too_small : (xs old : List ℕ) (n : ℕ) → n ≡ length xs → length old < n → (Err refusal.Buffer ≡ answer_of xs old) × (old ≡ left_in xs old)
too_small xs old n e h =
    let b : leb (length xs) (length old) ≡ false = lt-leb (length xs) (length old) (omega arith) in
    (sym (ap (λ v. told_of (cond v None (Some refusal.Buffer)) (length xs)) b), sym (ap (λ v. unless_of (cond v None (Some refusal.Buffer)) (xs ++ drop (length xs) old) old) b))

pub room : (xs old new : List ℕ) (n : ℕ) → n ≡ length xs → n ≤ length old → new ≡ xs ++ drop (length xs) old → (Ok n ≡ answer_of xs old) × (new ≡ left_in xs old)
room xs old new n e h f =
    let b : leb (length xs) (length old) ≡ true = le-leb (length xs) (length old) (omega arith) in
    (ap Ok e ∙ sym (ap (λ v. told_of (cond v None (Some refusal.Buffer)) (length xs)) b), f ∙ sym (ap (λ v. unless_of (cond v None (Some refusal.Buffer)) (xs ++ drop (length xs) old) old) b))
