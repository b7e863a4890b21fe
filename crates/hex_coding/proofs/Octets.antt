-- What characters that are hexadecimal stand for is octets.
use Rattle.std.specs.Prelude.{◌≡◌, ℕ, ◌<◌, Bool, true, false, cond, List, [], ◌∷◌, Some, None, refl}
use Rattle.std.proofs.Common.{subst, arith}
use Rattle.terms.specs.AtMost.{Octets}

abbrev pub Below256 : List ℕ → Type 0
Below256 [] = Unit {0}
Below256 (x ∷ xs) = (x < 256) × Below256 xs

pub below_256 : (xs : List ℕ) → Octets xs → Below256 xs
below_256 [] o = tt
below_256 (x ∷ xs) o = (omega (arith, o.0), below_256 xs o.1)

pub octets_by : (b : Bool) (xs zs : List ℕ) → (b ≡ true → Octets zs) → cond b (Some zs) None ≡ Some xs → Octets xs
octets_by true xs zs h e =
    let z : zs ≡ xs = cc in
    subst Octets z (h refl)
octets_by false xs zs h e = let z : ◌≡◌ {A = ℕ} 0 1 = cc in absurd (omega arith)
