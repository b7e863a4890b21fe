-- What an implementation owes of each call, once its questions are put.
use Rattle.std.proofs.Common.{◌≡◌, ℕ, ◌≤◌, List, IfOk, Some, None, Ok, Err, Option, Result, sym, refl, ap, ◌∙◌, subst, arith}
use Rattle.terms.specs.declared.refusal.Refusal.{Refusal}
use Rattle.terms.specs.declared.stop.Stop.TheVariants.{Refused}
use Rattle.terms.specs.declared.stop.Stop.{Stop}
use Rattle.terms.specs.Question.{first_no, asked, told_of}
use Rattle.terms.proofs.Questions.{refused_unless, done_unless}
use Rattle.bearer.specs.declared.side.Side.{Side}
use Rattle.bearer.specs.declared.told.Told.{Told}
use Rattle.bearer.specs.Meaning.{Meaning, tells, open_asks, give_asks, take_asks, close_asks, String, garbled, octets, Within, text_of, heard_text, string_of, with_dialogue, open_with, turn, code_of, open_questions, opens_next, open_answer, open_after, give_questions, gives_next, give_answer, give_after, take_questions, taken_by, heard, over, take_answer, take_place, take_after, close_questions}

-- the questions put to what a bearer tells of itself are those of the call
pub asks_open : (side : Side) (code xs : List ℕ) (m : Meaning) (t : Told) → t ≡ tells m → asked (open_asks t.is_open t.longest t.highest t.number side code xs) ≡ asked (open_questions side code xs m)
asks_open side code xs m t e = ap (λ v. asked (open_asks v.is_open v.longest v.highest v.number side code xs)) e

pub asks_give : (side : Side) (xs : List ℕ) (m : Meaning) (t : Told) → t ≡ tells m → asked (give_asks t.is_open t.standing t.longest t.highest side xs) ≡ asked (give_questions side xs m)
asks_give side xs m t e = ap (λ v. asked (give_asks v.is_open v.standing v.longest v.highest side xs)) e

pub asks_take : (side : Side) (m : Meaning) (t : Told) → t ≡ tells m → asked (take_asks t.is_open t.standing side) ≡ asked (take_questions side m)
asks_take side m t e = ap (λ v. asked (take_asks v.is_open v.standing side)) e

pub asks_close : (m : Meaning) (t : Told) → t ≡ tells m → asked (close_asks t.is_open) ≡ asked (close_questions m)
asks_close m t e = ap (λ v. asked (close_asks v.is_open)) e

pub open_refused : (side : Side) (code xs : List ℕ) (m : Meaning) (r : Refusal) → Err r ≡ asked (open_questions side code xs m) → (Err r ≡ open_answer side code xs m) × (m ≡ open_after side code xs m)
unfolding open_answer open_after
open_refused side code xs m r e = (e, refused_unless (open_questions side code xs m) r (tt {0}) (opens_next side code xs m) m e)

pub open_done : (side : Side) (code xs : List ℕ) (m n : Meaning) → Ok tt ≡ asked (open_questions side code xs m) → n ≡ opens_next side code xs m → (Ok tt ≡ open_answer side code xs m) × (n ≡ open_after side code xs m)
unfolding open_answer open_after
open_done side code xs m n e f = (e, f ∙ done_unless (open_questions side code xs m) (tt {0}) (tt {0}) (opens_next side code xs m) m e)

pub give_refused : (side : Side) (xs : List ℕ) (m : Meaning) (r : Refusal) → Err r ≡ asked (give_questions side xs m) → (Err r ≡ give_answer side xs m) × (m ≡ give_after side xs m)
unfolding give_answer give_after
give_refused side xs m r e = (e, refused_unless (give_questions side xs m) r (tt {0}) (gives_next side xs m) m e)

pub give_done : (side : Side) (xs : List ℕ) (m n : Meaning) → Ok tt ≡ asked (give_questions side xs m) → n ≡ gives_next side xs m → (Ok tt ≡ give_answer side xs m) × (n ≡ give_after side xs m)
unfolding give_answer give_after
give_done side xs m n e f = (e, f ∙ done_unless (give_questions side xs m) (tt {0}) (tt {0}) (gives_next side xs m) m e)

refused_by_lem : (o : Option Refusal) (s : Option String) (r : Refusal) → Err r ≡ told_of o (tt {0}) → Err (Refused r) ≡ taken_by o s
refused_by_lem None s r e = cc
refused_by_lem (Some q) s r e = let z : r ≡ q = cc in ap (λ v. Err (Refused v)) z

taken_by_lem : (o : Option Refusal) (s : Option String) → Ok tt ≡ told_of o (tt {0}) → heard s ≡ taken_by o s
taken_by_lem None s e = refl
taken_by_lem (Some q) s e = cc

abbrev pub turned : Side → Meaning → Meaning
turned side m = with_dialogue m m.number (open_with (code_of m) (turn side))

-- a take's three parts
pub record Takes (side : Side) (place : List ℕ) (m : Meaning) (r : Result ℕ Stop) (new : List ℕ) (n : Meaning) : Type 0 where
  pub answer : r ≡ take_answer side m
  pub copied : new ≡ take_place side place m
  pub after : n ≡ take_after side m

pub take_refused : (side : Side) (place : List ℕ) (m : Meaning) (r : Refusal) → Err r ≡ asked (take_questions side m) → Takes side place m (Err (Refused r)) place m
unfolding take_answer take_place take_after
take_refused side place m r e =
    record {
      answer = refused_by_lem (first_no (take_questions side m)) (string_of m) r e;
      copied = refused_unless (take_questions side m) r (tt {0}) (over (string_of m) place) place e;
      after = refused_unless (take_questions side m) r (tt {0}) (turned side m) m e;
    }

pub take_done : (side : Side) (place : List ℕ) (m : Meaning) (r : Result ℕ Stop) (new : List ℕ) (n : Meaning) → Ok tt ≡ asked (take_questions side m)
    → r ≡ heard (string_of m) → new ≡ over (string_of m) place → n ≡ turned side m → Takes side place m r new n
unfolding take_answer take_place take_after
take_done side place m r new n e a b f =
    record {
      answer = a ∙ taken_by_lem (first_no (take_questions side m)) (string_of m) e;
      copied = b ∙ done_unless (take_questions side m) (tt {0}) (tt {0}) (over (string_of m) place) place e;
      after = f ∙ done_unless (take_questions side m) (tt {0}) (tt {0}) (turned side m) m e;
    }

pub text_heard : (s : Option String) → heard_text (text_of s) ≡ heard s
text_heard None = refl
text_heard (Some garbled) = refl
text_heard (Some (octets xs)) = refl

pub heard_short : (s : Option String) (l h : ℕ) → l ≤ 152 → Within l h s → IfOk (heard s) (λ n. n ≤ 152)
heard_short None l h e w = omega arith
heard_short (Some garbled) l h e w = tt
heard_short (Some (octets xs)) l h e w = omega (arith, w.0)

pub made_err : {T E : Type 0} (P : T → Type 0) (r : Result T E) (y : E) → r ≡ Err y → IfOk r P
made_err {T} {E} P r y e = let Q : Result T E → Type 0 = λ v. IfOk v P in subst Q (sym e) tt

pub made_is : {T E : Type 0} (P : T → Type 0) (r s : Result T E) → r ≡ s → IfOk s P → IfOk r P
made_is {T} {E} P r s e m = let Q : Result T E → Type 0 = λ v. IfOk v P in subst Q (sym e) m
