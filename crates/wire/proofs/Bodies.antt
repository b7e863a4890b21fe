use Rattle.std.proofs.Common.{◌≡◌, ℕ, ◌+◌, ◌≤◌, cond, List, [], ◌∷◌, ◌++◌, length, get_or, drop, is_some, Some, None, Ok, Err, Option, unwrap_or, sym, refl, ap, ◌∙◌, le-leb}
use Rattle.terms.specs.declared.fault.Fault.{Fault}
use Rattle.terms.specs.declared.fault.Layer.TheVariants.{Header}
use Rattle.wire.specs.declared.header.Ports.{Ports}
use Rattle.wire.specs.declared.header.Found.{Found}
use Rattle.terms.specs.Question.{Question, first_no, told_of, told}
use Rattle.terms.specs.Cause.{ask, fault_of}
use Rattle.wire.specs.Header.{questions_on}
use Rattle.wire.specs.Pdu.{Carried, header_elements, header_found, header_questions, no_ports, body_in}
use Rattle.terms.proofs.Questions.{told_err, told_ok, told_is}

abbrev pub wrong : ℕ → Fault
wrong at = fault_of 45 at Header

-- the questions after the first
abbrev others : ℕ → List ℕ → List (Question Fault)
others at xs = questions_on (header_elements at xs) ++ (ask (is_some (header_found at xs).ports) 45 at Header ∷ [])

within : (at : ℕ) (xs : List ℕ) → at + 1 + get_or xs at 0 ≤ length xs → told (header_questions at xs) (body_in at xs) ≡ told (others at xs) (body_in at xs)
within at xs h = ap (λ b. told_of (cond b (first_no (others at xs)) (Some (wrong at))) (body_in at xs)) (le-leb (at + 1 + get_or xs at 0) (length xs) h)

pub walk_err : (at : ℕ) (xs : List ℕ) (f : Fault) → at + 1 + get_or xs at 0 ≤ length xs → Err f ≡ told (questions_on (header_elements at xs)) (header_found at xs) → Err f ≡ told (header_questions at xs) (body_in at xs)
walk_err at xs f h e = sym (within at xs h ∙ told_err (questions_on (header_elements at xs)) (ask (is_some (header_found at xs).ports) 45 at Header ∷ []) f (header_found at xs) (body_in at xs) (sym e))

last_no : (at : ℕ) (o : Option Ports) (b : Carried) → o ≡ None → told (ask (is_some o) 45 at Header ∷ []) b ≡ Err (wrong at)
last_no at None b e = refl
last_no at (Some p) b e = cc

last_yes : (at : ℕ) (o : Option Ports) (p : Ports) (b : Carried) → o ≡ Some p → told (ask (is_some o) 45 at Header ∷ []) b ≡ Ok b
last_yes at None p b e = cc
last_yes at (Some q) p b e = refl

-- where the elements are fine, the ports decide
walked : (at : ℕ) (xs : List ℕ) (f : Found) → at + 1 + get_or xs at 0 ≤ length xs → Ok f ≡ told (questions_on (header_elements at xs)) (header_found at xs)
    → (f ≡ header_found at xs) × (told (header_questions at xs) (body_in at xs) ≡ told (ask (is_some (header_found at xs).ports) 45 at Header ∷ []) (body_in at xs))
walked at xs f h e =
    let qs = questions_on (header_elements at xs) in
    (told_is qs (header_found at xs) f (sym e), within at xs h ∙ told_ok qs (ask (is_some (header_found at xs).ports) 45 at Header ∷ []) (header_found at xs) f (body_in at xs) (sym e))

pub no_ports_lem : (at : ℕ) (xs : List ℕ) (f : Found) → at + 1 + get_or xs at 0 ≤ length xs → Ok f ≡ told (questions_on (header_elements at xs)) (header_found at xs) → f.ports ≡ None → Err (wrong at) ≡ told (header_questions at xs) (body_in at xs)
no_ports_lem at xs f h e n =
    let w = walked at xs f h e in
    sym (w.1 ∙ last_no at (header_found at xs).ports (body_in at xs) (ap (λ g. g.ports) (sym w.0) ∙ n))

pub body_is : (at : ℕ) (xs : List ℕ) (f : Found) (p : Ports) → at + 1 + get_or xs at 0 ≤ length xs → Ok f ≡ told (questions_on (header_elements at xs)) (header_found at xs) → f.ports ≡ Some p
    → Ok (record { header = at; ports = p; segment = f.segment; user = record { place = at + 1 + get_or xs at 0; octets = drop (at + 1 + get_or xs at 0) xs } }) ≡ told (header_questions at xs) (body_in at xs)
body_is at xs f p h e n =
    let w = walked at xs f h e in
    let q : (header_found at xs).ports ≡ Some p = ap (λ g. g.ports) (sym w.0) ∙ n in
    ap (λ g. Ok (record { header = at; ports = p; segment = g.segment; user = record { place = at + 1 + get_or xs at 0; octets = drop (at + 1 + get_or xs at 0) xs } })) w.0
    ∙ ap (λ v. Ok (record { header = at; ports = v; segment = (header_found at xs).segment; user = record { place = at + 1 + get_or xs at 0; octets = drop (at + 1 + get_or xs at 0) xs } })) (ap (λ o. unwrap_or o no_ports) (sym q))
    ∙ sym (w.1 ∙ last_yes at (header_found at xs).ports p (body_in at xs) q)
