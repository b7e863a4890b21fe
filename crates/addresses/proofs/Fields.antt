use Rattle.std.proofs.Common.{◌≡◌, ℕ, ◌+◌, ◌*◌, ◌/◌, ◌%◌, ◌≤◌, min, Bool, true, false, cond, leb, List, [], ◌∷◌, ◌++◌, length, drop, Some, None, sym, refl, ap, ◌∙◌, arith, length-append, length-drop}
use Rattle.std.specs.List.{slice_index}
use Rattle.std.proofs.lemmas.Bool.{and_parts}
use Rattle.std.proofs.lemmas.List.{take_all, nil_from_length}
use Rattle.std.proofs.lemmas.List.Folds.{list_all-append}
use Rattle.wire.specs.declared.kind.NumberType.{NumberType}
use Rattle.wire.specs.Kind.{number_type_octet}
use Rattle.wire.specs.Address.{content_size, content_fine, address_fine, LawfulField}
use Rattle.wire.specs.Number.{all_digits, digits_of, packed, number_field}
use Rattle.wire.proofs.Numbers.{digits_length, packed_length}

some_if : (b : Bool) (n m : ℕ) → cond b (Some n) None ≡ Some m → (b ≡ true) × (n ≡ m)
some_if true n m e = (refl, cc)
some_if false n m e = cc

-- octets that are an address field from the first to the last
pub whole_lawful : (xs : List ℕ) → cond (address_fine xs) (Some (1 + content_size xs)) None ≡ Some (length xs) → LawfulField xs
whole_lawful xs e =
    let h = some_if (address_fine xs) (1 + content_size xs) (length xs) e in
    let t = take_all (content_size xs) (drop 1 xs) (omega (arith, h.1, length-drop 1 xs)) in
    (sym h.1, ap (content_fine (slice_index xs 0 / 32)) (sym t) ∙ (and_parts (leb (1 + content_size xs) (length xs)) _ h.0).1)

-- the digits of a text, cut behind the first two
pub cut_lawful : (all two rest : List ℕ) → all ≡ two ++ rest → all_digits all ≡ true → (all_digits two ≡ true) × (all_digits rest ≡ true)
cut_lawful all two rest e l = and_parts _ _ (sym (list_all-append _ two rest) ∙ ap all_digits (sym e) ∙ l)

pub cut_packed : (all two rest : List ℕ) (x : ℕ) → all ≡ two ++ rest → length two ≡ min 2 (length all) → packed (digits_of two) ≡ x ∷ [] → packed (digits_of all) ≡ x ∷ packed (digits_of rest)
cut_packed all [] rest x e l p = cc
cut_packed all (c ∷ []) rest x e l p =
    let z : rest ≡ [] = nil_from_length rest (omega (arith, l, ap length e)) in
    ap (λ v. packed (digits_of v)) e ∙ ap (λ v. packed (digits_of (c ∷ v))) z ∙ p ∙ ap (λ v. x ∷ packed (digits_of v)) (sym z)
cut_packed all (c ∷ d ∷ []) rest x e l p = ap (λ v. packed (digits_of v)) e ∙ ap (λ v. v ++ packed (digits_of rest)) p
cut_packed all (c ∷ d ∷ f ∷ two) rest x e l p = absurd (omega (arith, l))

-- the three octets before the digits
pub number_begun : (k : NumberType) (t o : List ℕ) (h x : ℕ) → o ≡ h ∷ length t ∷ x ∷ [] → h ≡ 2 * 32 + 2 + (length t + 1) / 2 → x ≡ number_type_octet k → o ++ packed (digits_of t) ≡ number_field k (digits_of t)
number_begun k t o h x e f g =
    let ds = digits_of t in
    let n = digits_length t in
    let y : h ≡ 2 * 32 + (2 + (length ds + 1) / 2) = omega (arith, f, n) in
    ap (λ v. v ++ packed ds) e ∙ ap (λ v. v ∷ length t ∷ x ∷ packed ds) y ∙ ap (λ v. (2 * 32 + (2 + (length ds + 1) / 2)) ∷ v ∷ x ∷ packed ds) (sym n)
    ∙ ap (λ v. (2 * 32 + (2 + (length ds + 1) / 2)) ∷ length ds ∷ v ∷ packed ds) g

-- there is room for two digits more
pub number_room : (k : NumberType) (t o ps : List ℕ) (x : ℕ) → length t ≤ 20 → o ++ (x ∷ ps) ≡ number_field k (digits_of t) → length o + 1 ≤ 17
number_room k t o ps x l e = omega (arith, l, ap length e, length-append o (x ∷ ps), packed_length (digits_of t), digits_length t)

-- an address octet before an address of its type
pub fixed_lawful : (k : ℕ) (xs : List ℕ) → length xs ≤ 16 → content_fine k xs ≡ true → LawfulField ((k * 32 + length xs) ∷ xs)
fixed_lawful k xs l f =
    let m : (k * 32 + length xs) % 32 ≡ length xs = omega (arith, l) in
    let d : (k * 32 + length xs) / 32 ≡ k = omega (arith, l) in
    (omega (arith, m), ap (λ j. content_fine j xs) d ∙ f)
