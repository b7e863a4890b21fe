use Rattle.std.proofs.Common.{◌≡◌, ℕ, suc, ◌+◌, ◌-◌, ◌*◌, ◌/◌, ◌%◌, ◌≤◌, Bool, true, false, cond, not, ◌&&◌, eqb, leb, List, [], ◌∷◌, length, Some, None, Option, unwrap_or, refl, ap, ◌∙◌, arith, eq-eqb, ne_eqb, le-leb, leb-true}
use Rattle.std.proofs.lemmas.Bool.{and_parts}
use Rattle.std.proofs.lemmas.Bool.Decides.{nat_tests}
use Rattle.wire.specs.declared.kind.NumberType.{NumberType}
use Rattle.wire.specs.declared.kind.NumberType.TheVariants.{Unknown, International}
use Rattle.wire.specs.Kind.{number_type_octet}
use Rattle.wire.specs.Address.{pair_fine, semis_fine, number_type_fine, number_fine, content_fine, LawfulField}
use Rattle.wire.specs.Number.{all_digits, lawful_text, digit_of, digits_of, packed, number_field}

small_step : (b : Bool) (n : ℕ) (o : Option ℕ) → (b ≡ true → n ≤ 14) → unwrap_or o 0 ≤ 14 → unwrap_or (cond b (Some n) o) 0 ≤ 14
small_step true n o h k = h refl
small_step false n o h k = k

range_small : (c : ℕ) → (leb 0x30 c && leb c 0x39) ≡ true → c - 0x30 ≤ 14
range_small c e = grind (arith, nat_tests)

-- a digit is below 15
pub digit_small : (c : ℕ) → digit_of c ≤ 14
digit_small c =
    small_step (leb 0x30 c && leb c 0x39) (c - 0x30) _ (range_small c)
    (small_step (eqb c 0x2A) 10 _ (λ e. omega arith) (small_step (eqb c 0x23) 11 _ (λ e. omega arith) (small_step (eqb c 0x61) 12 _ (λ e. omega arith) (small_step (eqb c 0x62) 13 _ (λ e. omega arith) (small_step (eqb c 0x63) 14 None (λ e. omega arith) (omega arith))))))

pub digits_length : (t : List ℕ) → length (digits_of t) ≡ length t
digits_length [] = refl
digits_length (c ∷ cs) = ap suc (digits_length cs)

abbrev pub Small : List ℕ → Type 0
Small [] = Unit {0}
Small (d ∷ ds) = (d ≤ 14) × Small ds

pub digits_small : (t : List ℕ) → Small (digits_of t)
digits_small [] = tt
digits_small (c ∷ cs) = (digit_small c, digits_small cs)

pub packed_length : (ds : List ℕ) → length (packed ds) ≡ (length ds + 1) / 2
packed_length [] = refl
packed_length (d ∷ []) = refl
packed_length (d ∷ e ∷ ds) = omega (arith, packed_length ds)

low_half : (d e : ℕ) → d ≤ 14 → (d + e * 16) % 16 ≡ d
low_half d e h = omega arith

high_half : (d e : ℕ) → d ≤ 14 → (d + e * 16) / 16 ≡ e
high_half d e h = omega arith

not_15 : (d e : ℕ) → d ≤ 14 → not (eqb ((d + e * 16) % 16) 15) ≡ true
not_15 d e h = ap not (ne_eqb ((d + e * 16) % 16) 15 (λ q. omega (arith, low_half d e h)))

pub pair_last : (d : ℕ) → d ≤ 14 → pair_fine 1 (d + 15 * 16) ≡ true
pair_last d h = ap (λ b. b && eqb ((d + 15 * 16) / 16) 15) (not_15 d 15 h) ∙ eq-eqb ((d + 15 * 16) / 16) 15 (high_half d 15 h)

pub pair_two : (left d e : ℕ) → 2 ≤ left → d ≤ 14 → e ≤ 14 → pair_fine left (d + e * 16) ≡ true
pair_two left d e l h k =
    ap (λ b. b && cond (eqb left 1) (eqb ((d + e * 16) / 16) 15) (not (eqb ((d + e * 16) / 16) 15))) (not_15 d e h)
    ∙ ap (λ b. cond b (eqb ((d + e * 16) / 16) 15) (not (eqb ((d + e * 16) / 16) 15))) (ne_eqb left 1 (λ q. omega arith))
    ∙ ap not (ne_eqb ((d + e * 16) / 16) 15 (λ q. omega (arith, high_half d e h)))

pub packed_fine : (ds : List ℕ) → Small ds → semis_fine (length ds) (packed ds) ≡ true
packed_fine [] s = refl
packed_fine (d ∷ []) s = ap (λ b. b && true) (pair_last d s.0)
packed_fine (d ∷ e ∷ ds) s =
    let n = length (d ∷ e ∷ ds) in
    let z : n - 2 ≡ length ds = omega arith in
    ap (λ b. b && semis_fine (n - 2) (packed ds)) (pair_two n d e (omega arith) s.0 s.1.0) ∙ ap (λ k. semis_fine k (packed ds)) z ∙ packed_fine ds s.1.1

type_fine : (t : NumberType) → number_type_fine (number_type_octet t) ≡ true
type_fine Unknown = refl
type_fine International = refl

-- the field of a number of 1 to 20 digits is lawful
pub number_lawful : (t : NumberType) (ds : List ℕ) → 1 ≤ length ds → length ds ≤ 20 → Small ds → LawfulField (number_field t ds)
number_lawful t ds a b s =
    let n = length ds in
    let k = 2 * 32 + (2 + (n + 1) / 2) in
    let l = packed_length ds in
    let q : (n + 1) / 2 ≤ 10 = omega arith in
    let m : k % 32 ≡ 2 + (n + 1) / 2 = omega arith in
    let j : k / 32 ≡ 2 = omega arith in
    let xs = n ∷ number_type_octet t ∷ packed ds in
    let e : number_fine xs ≡ true =
    ap (λ v. v && (leb n 20 && (eqb (length xs) (2 + (n + 1) / 2) && (number_type_fine (number_type_octet t) && semis_fine n (packed ds))))) (le-leb 1 n a)
    ∙ ap (λ v. v && (eqb (length xs) (2 + (n + 1) / 2) && (number_type_fine (number_type_octet t) && semis_fine n (packed ds)))) (le-leb n 20 b)
    ∙ ap (λ v. v && (number_type_fine (number_type_octet t) && semis_fine n (packed ds))) (eq-eqb (length xs) (2 + (n + 1) / 2) (omega (arith, l)))
    ∙ ap (λ v. v && semis_fine n (packed ds)) (type_fine t)
    ∙ packed_fine ds s in
    (omega (arith, l, m), ap (λ v. content_fine v xs) j ∙ e)

pub text_digits : (t : List ℕ) → lawful_text t ≡ true → all_digits t ≡ true
text_digits t e = (and_parts (leb (length t) 20) _ (and_parts (leb 1 (length t)) _ e).1).1

pub text_some : (t : List ℕ) → lawful_text t ≡ true → 1 ≤ length t
text_some t e = leb-true 1 (length t) (and_parts (leb 1 (length t)) _ e).0

pub text_few : (t : List ℕ) → lawful_text t ≡ true → length t ≤ 20
text_few t e = leb-true (length t) 20 (and_parts (leb (length t) 20) _ (and_parts (leb 1 (length t)) _ e).1).0

pub text_lawful : (k : NumberType) (t : List ℕ) → lawful_text t ≡ true → LawfulField (number_field k (digits_of t))
text_lawful k t l = let n = digits_length t in number_lawful k (digits_of t) (omega (arith, text_some t l)) (omega (arith, text_few t l)) (digits_small t)
