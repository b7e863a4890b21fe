-- Hex keeps the law of a coding.
use Rattle.std.specs.Prelude.{◌≡◌, ℕ, ◌*◌, ◌/◌, ◌%◌, ◌<◌, ◌≤◌, true, ◌&&◌, List, [], ◌∷◌, Some, refl}
use Rattle.std.proofs.Common.{subst, arith}
use Rattle.std.proofs.lemmas.Bool.{and_parts}
use Rattle.std.proofs.lemmas.Bool.Decides.{nat_tests}
use Rattle.terms.specs.AtMost.{AtMost, Octets}
use Rattle.coding.specs.Coding.{Lawful}
use Rattle.hex_text.specs.Hex.{digit_of, hex_of, is_digit, is_hex, octets_in, unhex}
use Rattle.hex_text.proofs.Hexes.{hex_length}
use Rattle.hex_text.proofs.Laws.{value_small, unhex_is, hex_back, hex_only}

-- how many characters so many octets have
abbrev pub size : ℕ → ℕ
size n = 2 * n

octets_in_lem : (ys : List ℕ) → is_hex ys ≡ true → Octets (octets_in ys)
octets_in_lem [] e = tt
octets_in_lem (c ∷ []) e = tt
octets_in_lem (c ∷ d ∷ cs) e =
    let p = and_parts (is_digit c && is_digit d) (is_hex cs) e in
    let q = and_parts (is_digit c) (is_digit d) p.0 in
    (omega (arith, value_small c q.0, value_small d q.1), octets_in_lem cs p.1)

only_octets : (ys xs : List ℕ) → unhex ys ≡ Some xs → Octets xs
only_octets ys xs e =
    let p = unhex_is ys xs e in
    subst Octets p.1 (octets_in_lem ys p.0)

digit_low : (v : ℕ) → v < 16 → digit_of v ≤ 70
digit_low v h = grind (arith, nat_tests)

-- F is the highest character
hex_low : (xs : List ℕ) → Octets xs → AtMost 70 (hex_of xs)
hex_low [] o = tt
hex_low (x ∷ xs) o = (digit_low (x / 16) (omega (arith, o.0)), (digit_low (x % 16) (omega arith), hex_low xs o.1))

pub hex_lawful : Lawful 70 hex_of unhex size
hex_lawful =
    record {
      small = omega arith;
      back = hex_back;
      only = λ ys xs e. (only_octets ys xs e, hex_only ys xs e);
      sized = hex_length;
      none = refl;
      grows = λ n. omega arith;
      below = hex_low;
    }
