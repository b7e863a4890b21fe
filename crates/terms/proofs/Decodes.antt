-- What a decode answers and leaves where there are octets to be told.
use Rattle.std.proofs.Common.{◌≡◌, ℕ, ◌<◌, ◌≤◌, cond, List, ◌++◌, length, drop, Some, None, Ok, Err, Option, sym, ap, ◌∙◌, arith, le-leb}
use borrow.Author.Tests.{lt-leb}
use Rattle.terms.specs.declared.refusal.Refusal.TheVariants as refusal
use Rattle.terms.specs.declared.stop.Stop.TheVariants.{Refused}
use Rattle.terms.specs.Question.{unless_of}
use Rattle.terms.specs.Decoded.{count_in, decoded_by, decoded_in}

pub decode_small : (o : Option (List ℕ)) (xs out : List ℕ) (n : ℕ) → o ≡ Some xs → n ≡ length xs → length out < n → (Err (Refused refusal.Buffer) ≡ decoded_by o out) × (out ≡ decoded_in o out)
decode_small o xs out n s e l =
    let b = lt-leb (length xs) (length out) (omega (arith, e)) in (
      sym (ap (λ v. decoded_by v out) s ∙ ap (λ v. count_in (cond v None (Some refusal.Buffer)) (length xs)) b),
      sym (ap (λ v. decoded_in v out) s ∙ ap (λ v. unless_of (cond v None (Some refusal.Buffer)) (xs ++ drop (length xs) out) out) b),
    )

pub decode_done : (o : Option (List ℕ)) (xs out new : List ℕ) (n : ℕ) → o ≡ Some xs → n ≡ length xs → n ≤ length out → new ≡ xs ++ drop (length xs) out → (Ok n ≡ decoded_by o out) × (new ≡ decoded_in o out)
decode_done o xs out new n s e l f =
    let b = le-leb (length xs) (length out) (omega (arith, e)) in (
      ap Ok e ∙ sym (ap (λ v. decoded_by v out) s ∙ ap (λ v. count_in (cond v None (Some refusal.Buffer)) (length xs)) b),
      f ∙ sym (ap (λ v. decoded_in v out) s ∙ ap (λ v. unless_of (cond v None (Some refusal.Buffer)) (xs ++ drop (length xs) out) out) b),
    )
