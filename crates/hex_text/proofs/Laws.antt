-- Decoding an encoding gives the octets back, and nothing else decodes.
use Rattle.std.proofs.Common.{◌≡◌, ℕ, ◌+◌, ◌*◌, ◌/◌, ◌%◌, ◌<◌, true, ◌&&◌, List, [], ◌∷◌, Some, refl, ap, ◌∙◌, arith}
use Rattle.std.proofs.lemmas.Bool.{and_parts}
use Rattle.std.proofs.lemmas.Bool.Decides.{nat_tests}
use Rattle.std.proofs.lemmas.Option.{cond_some}
use Rattle.terms.specs.AtMost.{Octets}
use Rattle.hex_text.specs.Hex.{digit_of, hex_of, is_digit, value_of, is_hex, octets_in, unhex}
use Rattle.hex_text.proofs.Hexes.{unhex_some}

digit_is : (v : ℕ) → v < 16 → is_digit (digit_of v) ≡ true
digit_is v h = grind (arith, nat_tests)

digit_value : (v : ℕ) → v < 16 → value_of (digit_of v) ≡ v
digit_value v h = grind (arith, nat_tests)

value_digit : (c : ℕ) → is_digit c ≡ true → digit_of (value_of c) ≡ c
value_digit c h = grind (arith, nat_tests)

pub value_small : (c : ℕ) → is_digit c ≡ true → value_of c < 16
value_small c h = grind (arith, nat_tests)

pub hex_is : (xs : List ℕ) → Octets xs → is_hex (hex_of xs) ≡ true
hex_is [] o = refl
hex_is (x ∷ xs) o =
    let a = digit_is (x / 16) (omega (arith, o.0)) in
    let b = digit_is (x % 16) (omega arith) in
    rw (a, b) (hex_is xs o.1)

pub hex_octets : (xs : List ℕ) → Octets xs → octets_in (hex_of xs) ≡ xs
hex_octets [] o = refl
hex_octets (x ∷ xs) o =
    let a = digit_value (x / 16) (omega (arith, o.0)) in
    let b = digit_value (x % 16) (omega arith) in
    let z : x / 16 * 16 + x % 16 ≡ x = omega arith in
    rw (a, b, z, hex_octets xs o.1) refl

pub hex_back : (xs : List ℕ) → Octets xs → unhex (hex_of xs) ≡ Some xs
hex_back xs o = unhex_some (hex_of xs) (hex_is xs o) ∙ ap Some (hex_octets xs o)

octets_hex : (ys : List ℕ) → is_hex ys ≡ true → ys ≡ hex_of (octets_in ys)
octets_hex [] e = refl
octets_hex (c ∷ []) e = cc
octets_hex (c ∷ d ∷ cs) e =
    let p = and_parts (is_digit c && is_digit d) (is_hex cs) e in
    let q = and_parts (is_digit c) (is_digit d) p.0 in
    let v = value_small c q.0 in
    let w = value_small d q.1 in
    let a : (value_of c * 16 + value_of d) / 16 ≡ value_of c = omega (arith, v, w) in
    let b : (value_of c * 16 + value_of d) % 16 ≡ value_of d = omega (arith, v, w) in
    rw (a, b, value_digit c q.0, value_digit d q.1, ← (octets_hex cs p.1)) refl

-- what decodes is hexadecimal
pub unhex_is : (ys xs : List ℕ) → unhex ys ≡ Some xs → (is_hex ys ≡ true) × (octets_in ys ≡ xs)
unhex_is ys xs e = cond_some (is_hex ys) (octets_in ys) xs e

pub hex_only : (ys xs : List ℕ) → unhex ys ≡ Some xs → ys ≡ hex_of xs
hex_only ys xs e = let p = unhex_is ys xs e in octets_hex ys p.0 ∙ ap hex_of p.1
