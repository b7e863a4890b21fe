use Rattle.std.proofs.Common.{◌≡◌, ℕ, zero, suc, ◌+◌, ◌-◌, ◌≤◌, Bool, true, false, cond, ◌&&◌, eqb, List, [], ◌∷◌, length, get_or, take, drop, Some, None, Option, Result, sym, refl, ap, ◌∙◌, le_of_suc-le-suc, arith, le-leb}
use Rattle.std.proofs.lemmas.Bool.{true≢false}
use Rattle.std.proofs.lemmas.List.{take_rest}
use Rattle.std.proofs.lemmas.Bool.Decides.{nat_tests}
use Rattle.terms.specs.declared.fault.Fault.{Fault}
use Rattle.wire.specs.declared.header.Found.{Found}
use Rattle.terms.specs.Question.{told}
use Rattle.wire.specs.Header.{Element, elements_in, overrun, ports_in, segment_in, noted, questions_on, or_else, last_of, ports_of, segment_of, found_in}

pub skipped : (n at : ℕ) (xs : List ℕ) → n ≤ length xs → elements_in n at xs ≡ elements_in 0 at (drop n xs)
skipped zero at xs h = refl
skipped (suc n) at [] h = absurd (omega arith)
skipped (suc n) at (x ∷ xs) h = skipped n at xs (le_of_suc-le-suc h)

-- an element that lies within the octets
abbrev element : ℕ → ℕ → List ℕ → Element
element at k xs = record { at = at; kind = k; octets = xs; whole = true }

element_first : (rest : List ℕ) (at : ℕ) → 2 ≤ length rest → get_or rest 1 0 ≤ length (drop 2 rest)
    → elements_in 0 at rest ≡ element at (get_or rest 0 0) (take (get_or rest 1 0) (drop 2 rest)) ∷ elements_in 0 (at + (2 + get_or rest 1 0)) (drop (get_or rest 1 0) (drop 2 rest))
element_first [] at h w = absurd (omega arith)
element_first (k ∷ []) at h w = absurd (omega arith)
element_first (k ∷ n ∷ tail) at h w =
    ap (λ b. cond b (element at k (take n tail) ∷ elements_in n (at + (2 + n)) tail) (overrun at ∷ [])) (le-leb n (length tail) w)
    ∙ ap (λ es. element at k (take n tail) ∷ es) (skipped n (at + (2 + n)) tail w)

-- the same at the slices that hold what is behind the length
pub element_next : (rest : List ℕ) (at : ℕ) → 2 ≤ length rest → get_or rest 1 0 ≤ length (take (length rest - 2) (drop 2 rest))
    → elements_in 0 at rest
    ≡ element at (get_or rest 0 0) (take (get_or rest 1 0) (take (length rest - 2) (drop 2 rest)))
    ∷ elements_in 0 (at + 2 + get_or rest 1 0) (take (length (take (length rest - 2) (drop 2 rest)) - get_or rest 1 0) (drop (get_or rest 1 0) (take (length rest - 2) (drop 2 rest))))
element_next rest at h w =
    let n = get_or rest 1 0 in
    let tail = take (length rest - 2) (drop 2 rest) in
    let t : tail ≡ drop 2 rest = take_rest rest 2 in
    let z : at + (2 + n) ≡ at + 2 + n = omega arith in
    element_first rest at h (omega (arith, w, ap length t))
    ∙ ap (λ v. element at (get_or rest 0 0) (take n v) ∷ elements_in 0 (at + (2 + n)) (drop n v)) (sym t)
    ∙ ap (λ v. element at (get_or rest 0 0) (take n tail) ∷ elements_in 0 v (drop n tail)) z
    ∙ ap (λ v. element at (get_or rest 0 0) (take n tail) ∷ elements_in 0 (at + 2 + n) v) (sym (take_rest tail n))

-- what is found, element by element
abbrev pub folded : Found → List Element → Found
folded f [] = f
folded f (e ∷ es) = folded (noted e.at e.kind e.octets f) es

abbrev or : {X : Type 0} → Option X → Option X → Option X
or (Some x) o = Some x
or None o = o

ports_step : (l : Option Element) (b z : Bool) (e : Element) (f : Found)
    → or (ports_of l) (cond b (record { ports = Some (ports_in e.octets); segment = f.segment }) (cond z (record { ports = f.ports; segment = Some (segment_in e.at e.octets) }) f)).ports ≡ or (ports_of (or_else l (cond b (Some e) None))) f.ports
ports_step (Some x) b z e f = refl
ports_step None true z e f = refl
ports_step None false true e f = refl
ports_step None false false e f = refl

segment_step : (l : Option Element) (b z : Bool) (e : Element) (f : Found) → (b && z) ≡ false
    → or (segment_of l) (cond b (record { ports = Some (ports_in e.octets); segment = f.segment }) (cond z (record { ports = f.ports; segment = Some (segment_in e.at e.octets) }) f)).segment ≡ or (segment_of (or_else l (cond z (Some e) None))) f.segment
segment_step (Some x) b z e f h = refl
segment_step None true true e f h = absurd (true≢false h)
segment_step None true false e f h = refl
segment_step None false true e f h = refl
segment_step None false false e f h = refl

apart : (k : ℕ) → (eqb k 5 && eqb k 0) ≡ false
apart k = grind (arith, nat_tests)

folded_is : (f : Found) (es : List Element) → folded f es ≡ record { ports = or (ports_of (last_of 5 es)) f.ports; segment = or (segment_of (last_of 0 es)) f.segment }
folded_is f [] = refl
folded_is f (e ∷ es) =
    let g = noted e.at e.kind e.octets f in
    folded_is g es
    ∙ ap (λ v. record { ports = v; segment = or (segment_of (last_of 0 es)) g.segment }) (ports_step (last_of 5 es) (eqb e.kind 5) (eqb e.kind 0) e f)
    ∙ ap (λ v. record { ports = or (ports_of (last_of 5 (e ∷ es))) f.ports; segment = v }) (segment_step (last_of 0 es) (eqb e.kind 5) (eqb e.kind 0) e f (apart e.kind))

or_none : {X : Type 0} (o : Option X) → or o None ≡ o
or_none (Some x) = refl
or_none None = refl

pub found_is : (es : List Element) → folded (record { ports = None; segment = None }) es ≡ found_in es
found_is es =
    folded_is (record { ports = None; segment = None }) es
    ∙ ap (λ v. record { ports = v; segment = or (segment_of (last_of 0 es)) None }) (or_none (ports_of (last_of 5 es)))
    ∙ ap (λ v. record { ports = ports_of (last_of 5 es); segment = v }) (or_none (segment_of (last_of 0 es)))

abbrev pub judged : Found → List Element → Result Found Fault
judged f es = told (questions_on es) (folded f es)
