use Rattle.std.proofs.Common.{◌≡◌, ℕ, ◌+◌, ◌*◌, ◌/◌, ◌%◌, ◌≤◌, Bool, true, false, cond, ◌&&◌, leb, List, [], ◌∷◌, ◌++◌, length, take, drop, Some, None, Option, Result, sym, refl, ap, ◌∙◌, subst, arith, le-leb}
use native.Mathlib.Nat.{mod-add-div'}
use lib.Seq.{take-append_seam}
use Rattle.terms.specs.declared.refusal.Refusal.{Refusal}
use Rattle.terms.specs.declared.refusal.Refusal.TheVariants as refusal
use Rattle.terms.specs.Question.{told_of, unless_of}
use Rattle.terms.specs.Buffer.{answer_of, left_in}
use Rattle.wire.specs.declared.header.Ports.{Ports}
use Rattle.wire.specs.Segment.{Numbers}
use Rattle.wire.specs.Header.{fine_of, ports_in}
use Rattle.wire.specs.Pdu as read
use Rattle.wire.specs.declared.kind.Kind.TheVariants as kind
use Rattle.wire.specs.Format.{Tells, Stands, opening, header_of}
use Rattle.wire.specs.Written as sent
use Rattle.wire.specs.Back.{carried_at, read_as, LawfulSegment, Lawful, ReadsBack, ReadsAs, Writes}
use Rattle.wire.proofs.Completes.{complete}

fine_3 : (r c s : ℕ) → 1 ≤ s → s ≤ c → fine_of 0 (r ∷ c ∷ s ∷ []) ≡ true
fine_3 r c s h k =
    let a = le-leb 1 c (omega arith) in
    let b = le-leb 1 s h in
    let d = le-leb s c k in
    ap (λ v. v && (leb 1 s && leb s c)) a ∙ ap (λ v. v && leb s c) b ∙ d

ports_back : (p : Ports) → ports_in (p.to / 256 ∷ p.to % 256 ∷ p.from / 256 ∷ p.from % 256 ∷ []) ≡ p
ports_back p =
    let a : p.to / 256 * 256 + p.to % 256 ≡ p.to = omega (arith, mod-add-div' p.to 256) in
    let b : p.from / 256 * 256 + p.from % 256 ≡ p.from = omega (arith, mod-add-div' p.from 256) in
    ap (λ v. record { to = v; from = p.from / 256 * 256 + p.from % 256 }) a ∙ ap (λ v. record { to = p.to; from = v }) b

-- the elements that are written tell what was sent
tells : (at : ℕ) (p : Ports) (q : Option Numbers) (u : List ℕ) → LawfulSegment q → Tells at (sent.elements_of (at + 1) p q) (carried_at at p q u)
tells at p None u l = record { placed = (refl, refl, tt); fine = (refl, tt); header = refl; ports = ap Some (ports_back p); segment = refl; user = omega arith }
tells at p (Some q) u l =
    let z : at + 1 + 6 + 4 ≡ at + 11 = omega arith in
    record {
      placed = (refl, refl, (refl, refl, tt));
      fine = (refl, (fine_3 q.reference q.count q.sequence l.0 l.1, tt));
      header = refl;
      ports = ap Some (ports_back p);
      segment = ap (λ v. Some (record { reference = q.reference; count = q.count; sequence = q.sequence; place = v })) z;
      user = omega arith;
    }

header_at : (at : ℕ) (p : Ports) (q : Option Numbers) → sent.header p q ≡ header_of (sent.elements_of at p q)
header_at at p None = refl
header_at at p (Some q) = refl

-- what is written keeps the rules of the format
pub written_stands : (w : sent.Message) → Lawful w → Stands (sent.written w) (read_as w)
written_stands (sent.data_of m p q u) l = (sent.elements_of 2 p q, ap (λ h. opening kind.Data m ∷ (h ++ u)) (header_at 2 p q), tells 1 p q u l)
written_stands (sent.long_of m a p q u) l =
    (sent.elements_of (1 + length a + 1) p q, ap (λ h. opening kind.DataLong m ∷ (a ++ (h ++ u))) (header_at (1 + length a + 1) p q), refl, l.0, tells (1 + length a) p q u l.1)
written_stands sent.ready l = refl
written_stands (sent.error_of c) l = refl
written_stands (sent.release_of c) l = refl

pub reads_back : ReadsBack
reads_back w l = complete (sent.written w) (read_as w) (written_stands w l)

sent_step : (w : sent.Message) (b : Bool) (old new : List ℕ) (r : Result ℕ Refusal) → Lawful w → r ≡ told_of (cond b None (Some refusal.Buffer)) (length (sent.written w))
    → new ≡ unless_of (cond b None (Some refusal.Buffer)) (sent.written w ++ drop (length (sent.written w)) old) old → ReadsAs w r new
sent_step w true old new r l e f =
    let xs = sent.written w in
    let P : Result ℕ Refusal → Type 0 = λ v. ReadsAs w v new in
    subst P (sym e) (ap (λ v. read.reading (take (length xs) v)) f ∙ ap read.reading (take-append_seam xs (drop (length xs) old)) ∙ reads_back w l)
sent_step w false old new r l e f =
    let P : Result ℕ Refusal → Type 0 = λ v. ReadsAs w v new in
    subst P (sym e) tt

sent_back : (w : sent.Message) (old new : List ℕ) (r : Result ℕ Refusal) → Lawful w → r ≡ answer_of (sent.written w) old → new ≡ left_in (sent.written w) old → ReadsAs w r new
sent_back w old new r l e f = sent_step w (leb (length (sent.written w)) (length old)) old new r l e f

pub writes : (w : sent.Message) (xs old new : List ℕ) (r : Result ℕ Refusal) → Lawful w → xs ≡ sent.written w → r ≡ answer_of xs old → new ≡ left_in xs old → Writes w old new r
writes w xs old new r l x e f =
    let a : r ≡ answer_of (sent.written w) old = e ∙ ap (λ v. answer_of v old) x in
    let b : new ≡ left_in (sent.written w) old = f ∙ ap (λ v. left_in v old) x in
    record { answer = a; after = b; back = sent_back w old new r l a b }
