-- Every string that keeps the rules of the format is read as the PDU that it is.
use Rattle.std.proofs.Common.{◌≡◌, ℕ, ◌+◌, ◌-◌, ◌/◌, ◌%◌, ◌≤◌, Bool, true, false, cond, not, ◌&&◌, ◌||◌, eqb, ltb, leb, List, [], ◌∷◌, ◌++◌, length, get_or, take, drop, Some, None, Ok, sym, refl, ap, ◌∙◌, subst, arith, length-append, le-leb}
use lib.Seq.{take-append_seam, get_or-append_seam}
use Rattle.std.proofs.lemmas.List.{drop-drop, drop_at}
use Rattle.terms.specs.declared.fault.Layer.TheVariants as layer
use Rattle.terms.specs.Question.{told, told_of}
use Rattle.terms.specs.Cause.{fault_of}
use Rattle.terms.specs.Laws.{AllHold}
use Rattle.terms.proofs.Questions.{told_to, told_all}
use Rattle.wire.specs.declared.kind.Kind.TheVariants as kind
use Rattle.wire.specs.declared.code.ErrorCode.{ErrorCode}
use Rattle.wire.specs.declared.code.ErrorCode.TheVariants as error
use Rattle.wire.specs.declared.code.ReleaseCode.{ReleaseCode}
use Rattle.wire.specs.declared.code.ReleaseCode.TheVariants as release
use Rattle.wire.specs.Code.{error_number, release_number}
use Rattle.wire.specs.Address.{LawfulField, content_fine, address_fine}
use Rattle.wire.specs.Header.{Element, filled, elements_in, fine_of, questions_on, found_in}
use Rattle.wire.specs.Pdu.{Span, Carried, data_of, long_of, ready, error_of, release_of, start_questions, address_questions, field_size, header_elements, header_found, header_questions, body_in, told_form, data_form, long_form, reading}
use Rattle.wire.specs.Format.{Placed, AllFine, opening, header_of, Tells, Complete}
use Rattle.wire.proofs.Fillings.{fills}
use Rattle.wire.proofs.Bodies.{body_is}
use Rattle.wire.proofs.Readings.{by_form, long_is}

-- elements in their places that are fine answer every question
pub fine_hold : (at : ℕ) (es : List Element) → Placed at es → AllFine es → AllHold (questions_on es)
fine_hold at [] p f = tt
fine_hold at (e ∷ es) p f = (ap (λ b. b && fine_of e.kind e.octets) p.1 ∙ f.0, fine_hold (at + (2 + length e.octets)) es p.2 f.1)

-- a header behind `pre`
header_stands : (pre : List ℕ) (es : List Element) (c : Carried) → Tells (length pre) es c
    → Ok c ≡ told (header_questions (length pre) (pre ++ (header_of es ++ c.user.octets))) (body_in (length pre) (pre ++ (header_of es ++ c.user.octets)))
header_stands pre es c t =
    let at = length pre in
    let fs = filled es in
    let u = c.user.octets in
    let xs = pre ++ (header_of es ++ u) in
    let n = length fs in
    let s : get_or xs at 0 ≡ n = get_or-append_seam pre n (fs ++ u) 0 in
    let d : drop (at + 1) xs ≡ fs ++ u = sym (drop-drop 1 at xs) ∙ ap (drop 1) (drop_at pre (header_of es ++ u) at refl) in
    let f : take (get_or xs at 0) (drop (at + 1) xs) ≡ fs = ap (λ v. take v (drop (at + 1) xs)) s ∙ ap (take n) d ∙ take-append_seam fs u in
    let h : at + 1 + get_or xs at 0 ≤ length xs = omega (arith, s, length-append pre (header_of es ++ u), length-append (header_of es) u) in
    let e : Ok (found_in es) ≡ told (questions_on (header_elements at xs)) (header_found at xs)
    = sym (ap (λ v. told (questions_on (elements_in 0 (at + 1) v)) (found_in (elements_in 0 (at + 1) v))) f
    ∙ ap (λ v. told (questions_on v) (found_in v)) (fills (at + 1) es t.placed)
    ∙ told_all (questions_on es) (found_in es) (fine_hold (at + 1) es t.placed t.fine)) in
    let w : drop (at + 1 + n) xs ≡ u = sym (drop-drop n (at + 1) xs) ∙ ap (drop n) d ∙ drop_at fs u n refl in
    let y : c.user.place ≡ at + 1 + get_or xs at 0 = omega (arith, s, t.user) in
    let v : drop (at + 1 + get_or xs at 0) xs ≡ u = ap (λ j. drop (at + 1 + j) xs) s ∙ w in
    ap (λ j. Ok (record { header = j; ports = c.ports; segment = c.segment; user = c.user })) t.header
    ∙ ap (λ j. Ok (record { header = at; ports = c.ports; segment = j; user = c.user })) (sym t.segment)
    ∙ ap (λ j. Ok (record { header = at; ports = c.ports; segment = (found_in es).segment; user = record { place = j; octets = u } })) y
    ∙ ap (λ j. Ok (record { header = at; ports = c.ports; segment = (found_in es).segment; user = record { place = at + 1 + get_or xs at 0; octets = j } })) (sym v)
    ∙ body_is at xs (found_in es) c.ports h e t.ports

field_stands : (f : ℕ) (a r : List ℕ) → LawfulField a → Ok (length a) ≡ told (address_questions (f ∷ (a ++ r))) (field_size (f ∷ (a ++ r)))
field_stands f [] r l = absurd (omega (arith, l.0))
field_stands f (h ∷ t) r l =
    let e : length t ≡ h % 32 = omega (arith, l.0) in
    let z : 1 + h % 32 ≡ length (h ∷ t) = omega (arith, e) in
    let a = le-leb (1 + h % 32) (length (h ∷ (t ++ r))) (omega (arith, e, length-append t r)) in
    let b : content_fine (h / 32) (take (h % 32) (t ++ r)) ≡ true = ap (λ k. content_fine (h / 32) (take k (t ++ r))) (sym e) ∙ ap (content_fine (h / 32)) (take-append_seam t r) ∙ l.1 in
    let w : address_fine (h ∷ (t ++ r)) ≡ true = ap (λ v. v && content_fine (h / 32) (take (h % 32) (t ++ r))) a ∙ b in
    ap Ok (sym z) ∙ sym (ap (λ v. told_of (cond v None (Some (fault_of 44 1 layer.Pdu))) (1 + h % 32)) w)

start_stands : (x : ℕ) (ys : List ℕ) → ltb x 32 ≡ true → (leb 1 (x / 2) && leb (x / 2) 5) ≡ true → (not (eqb (x % 2) 1) || leb (x / 2) 2) ≡ true → Ok x ≡ told (start_questions (x ∷ ys)) x
start_stands x ys a b c = let d = le-leb 1 (length (x ∷ ys)) (omega arith) in sym (simp (d, a, b, c))

long_stands : (f : ℕ) (m : Bool) (a : Span) (es : List Element) (c : Carried) → a.place ≡ 1 → LawfulField a.octets → Tells (1 + length a.octets) es c
    → Ok (long_of m a c) ≡ told_form (long_form m (f ∷ (a.octets ++ (header_of es ++ c.user.octets))))
long_stands f m a es c p l t =
    let o = a.octets in
    let r = header_of es ++ c.user.octets in
    let xs = f ∷ (o ++ r) in
    let k : 1 + length o ≡ length (f ∷ o) = omega arith in
    let z : 1 + length o - 1 ≡ length o = omega arith in
    let T : ℕ → Type 0 = λ n. Tells n es c in
    let b : Ok c ≡ told (header_questions (1 + length o) xs) (body_in (1 + length o) xs)
    = header_stands (f ∷ o) es c (subst T k t) ∙ ap (λ n. told (header_questions n xs) (body_in n xs)) (sym k) in
    let w : take (1 + length o - 1) (o ++ r) ≡ o = ap (λ n. take n (o ++ r)) z ∙ take-append_seam o r in
    ap (λ v. Ok (long_of m (record { place = v; octets = o }) c)) p
    ∙ ap (λ v. Ok (long_of m (record { place = 1; octets = v }) c)) (sym w) ∙ long_is m xs (length o) c (field_stands f o r l) b

data_stands : (f : ℕ) (m : Bool) (es : List Element) (c : Carried) → Tells 1 es c → Ok (data_of m c) ≡ told_form (data_form m (f ∷ (header_of es ++ c.user.octets)))
data_stands f m es c t =
    let xs = f ∷ (header_of es ++ c.user.octets) in
    sym (told_to (header_questions 1 xs) (λ b. data_of m b) (body_in 1 xs) c (sym (header_stands (f ∷ []) es c t)))

data_reads : (m : Bool) (es : List Element) (c : Carried) → Tells 1 es c → reading (opening kind.Data m ∷ (header_of es ++ c.user.octets)) ≡ Ok (data_of m c)
data_reads true es c t = let r = header_of es ++ c.user.octets in sym (by_form (3 ∷ r) 3 (data_form true (3 ∷ r)) _ (start_stands 3 r refl refl refl) refl (data_stands 3 true es c t))
data_reads false es c t = let r = header_of es ++ c.user.octets in sym (by_form (2 ∷ r) 2 (data_form false (2 ∷ r)) _ (start_stands 2 r refl refl refl) refl (data_stands 2 false es c t))

long_reads : (m : Bool) (a : Span) (es : List Element) (c : Carried) → a.place ≡ 1 → LawfulField a.octets → Tells (1 + length a.octets) es c
    → reading (opening kind.DataLong m ∷ (a.octets ++ (header_of es ++ c.user.octets))) ≡ Ok (long_of m a c)
long_reads true a es c p l t =
    let r = a.octets ++ (header_of es ++ c.user.octets) in sym (by_form (5 ∷ r) 5 (long_form true (5 ∷ r)) _ (start_stands 5 r refl refl refl) refl (long_stands 5 true a es c p l t))
long_reads false a es c p l t =
    let r = a.octets ++ (header_of es ++ c.user.octets) in sym (by_form (4 ∷ r) 4 (long_form false (4 ∷ r)) _ (start_stands 4 r refl refl refl) refl (long_stands 4 false a es c p l t))

error_reads : (c : ErrorCode) → reading (opening kind.Error false ∷ error_number c ∷ []) ≡ Ok (error_of c)
error_reads error.Unknown = refl
error_reads error.Protocol = refl
error_reads error.Version = refl
error_reads error.Addressing = refl

release_reads : (c : ReleaseCode) → reading (opening kind.Release false ∷ release_number c ∷ []) ≡ Ok (release_of c)
release_reads release.Unknown = refl
release_reads release.Timer = refl
release_reads release.Idle = refl
release_reads release.User = refl

pub complete : Complete
complete xs (data_of m c) s = ap reading s.1 ∙ data_reads m s.0 c s.2
complete xs (long_of m a c) s = ap reading s.1 ∙ long_reads m a s.0 c s.2 s.3 s.4
complete xs ready s = ap reading s
complete xs (error_of c) s = ap reading s ∙ error_reads c
complete xs (release_of c) s = ap reading s ∙ release_reads c
