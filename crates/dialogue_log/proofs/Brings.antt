-- A load's answer tells whether it was refused.
use Rattle.std.proofs.Common.{◌≡◌, ℕ, Some, None, Ok, Err, Option, refl, ap, arith}
use Rattle.terms.specs.declared.refusal.Refusal.{Refusal}
use Rattle.terms.specs.Question.{told_of}

pub refused_is : (o : Option Refusal) (r : Refusal) → Err r ≡ told_of o (tt {0}) → o ≡ Some r
refused_is None r e = let z : ◌≡◌ {A = ℕ} 0 1 = cc in absurd (omega arith)
refused_is (Some q) r e = let z : q ≡ r = cc in ap Some z

pub done_is : (o : Option Refusal) → Ok (tt {0}) ≡ told_of o (tt {0}) → o ≡ None
done_is None e = refl
done_is (Some q) e = let z : ◌≡◌ {A = ℕ} 0 1 = cc in absurd (omega arith)
