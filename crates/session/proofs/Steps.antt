-- Sessions are in step with the bearer.
use Rattle.std.proofs.Common.{◌≡◌, ℕ, Bool, true, false, eqb, ◌⊎◌, List, [], ◌∷◌, length, Some, None, Ok, Err, Option, Result, sym, refl, ap, ◌∙◌, inl, inr, rules, eq-eqb, eqb-true}
use Rattle.std.specs.Result.{result_map_both}
use Rattle.terms.specs.declared.refusal.Refusal.{Refusal}
use Rattle.terms.specs.declared.refusal.Refusal.TheVariants.{NotOpen}
use Rattle.terms.specs.declared.fault.Fault.{Fault}
use Rattle.terms.specs.Question.{first_no, asked, unless, unless_of}
use Rattle.terms.specs.Refusal.{must}
use Rattle.terms.specs.Cause.{fault_of}
use Rattle.terms.specs.declared.fault.Layer.TheVariants.{Bearer}
use Rattle.terms.proofs.Questions.{refused_unless, done_unless}
use Rattle.bearer.specs.declared.side.Side.{Side}
use Rattle.bearer.specs.declared.side.Side.TheVariants.{Mobile, Network}
use Rattle.bearer.specs.declared.side.Standing.TheVariants.{Closed, Turn, UnderWay}
use Rattle.bearer.specs.Side.{same, other}
use Rattle.bearer.specs.Meaning.{Meaning, Dialogue, closed, open_with, turn, String, garbled, octets, standing_in, stand_of, is_open_in, code_of, string_of, turn_is, is_for, fit_asks, with_dialogue, open_questions, opens_next, open_answer, open_after, give_questions, gives_next, give_answer, give_after, take_questions, taken_by, heard, over, take_answer, take_place, take_after, close_questions, close_answer, close_after}
use Rattle.session.specs.declared.state.Session.{Session}
use Rattle.session.specs.Sessions.{Speaking, Listening, session_in, before, taken, listens, speaks, opens, begins, give_in, give_left, take_in, place_in, take_left, close_in, close_left}
use Rattle.session.specs.Laws.{HasTurn, HasGiven, MovesOn, Stays, Free}

-- a call that was accepted: the numbers agree, and the bearer said so
record Done {A X : Type 0} (b : Bool) (r : Result A Refusal) (next : A → X) (x : X) : Type 0 where
  agree : b ≡ true
  value : A
  said : r ≡ Ok value
  is : x ≡ next value

done : {A X Y : Type 0} (b : Bool) (r : Result A Refusal) (next : A → X) (stay : Y) (x : X) → result_map_both {D = Refusal × Y} next (λ why. (why, stay)) (before (first_no (must b 26 ∷ [])) r) ≡ Ok x → Done b r next x
done true (Ok a) next stay x e = record { agree = refl; value = a; said = refl; is = cc }
done true (Err w) next stay x e = absurd (search rules)
done false r next stay x e = absurd (search rules)

-- one that was refused: the session stays, and the numbers differ or the bearer refused
record Refused {A Y : Type 0} (b : Bool) (r : Result A Refusal) (stay t : Y) (why : Refusal) : Type 0 where
  same_session : t ≡ stay
  by : (b ≡ false) ⊎ ((b ≡ true) × (r ≡ Err why))

refused : {A X Y : Type 0} (b : Bool) (r : Result A Refusal) (next : A → X) (stay t : Y) (why : Refusal) → result_map_both {D = Refusal × Y} next (λ w. (w, stay)) (before (first_no (must b 26 ∷ [])) r) ≡ Err (why, t) → Refused b r stay t why
refused true (Ok a) next stay t why e = absurd (search rules)
refused {Y = Y} true (Err w) next stay t why e =
    let z : ◌≡◌ {A = Refusal × Y} (why, t) (w, stay) = cc in
    record { same_session = ap (λ p. p.1) z; by = inr (refl, sym (ap (λ p. Err p.0) z)) }
refused {Y = Y} false r next stay t why e = let z : ◌≡◌ {A = Refusal × Y} (why, t) (NotOpen, stay) = cc in record { same_session = ap (λ p. p.1) z; by = inl refl }

begun_ok : {A X : Type 0} (r : Result A Refusal) (next : A → X) (x : X) → result_map_both next (λ why. why) r ≡ Ok x → Done true r next x
begun_ok (Ok a) next x e = record { agree = refl; value = a; said = refl; is = cc }
begun_ok (Err w) next x e = absurd (search rules)

-- what is left: the bearer's own, or all as it was
left_new : {A : Type 0} (b : Bool) (new old : A) → b ≡ true → unless (must b 26 ∷ []) new old ≡ new
left_new b new old e = ap (λ v. unless_of (first_no (must v 26 ∷ [])) new old) e

left_old : {A : Type 0} (b : Bool) (new old : A) → (b ≡ false) ⊎ ((b ≡ true) × (new ≡ old)) → unless (must b 26 ∷ []) new old ≡ old
left_old b new old (inl e) = ap (λ v. unless_of (first_no (must v 26 ∷ [])) new old) e
left_old b new old (inr p) = left_new b new old p.0 ∙ p.1

-- the bearer's calls, accepted and refused
open_done : (side : Side) (code xs : List ℕ) (m : Meaning) → open_answer side code xs m ≡ Ok tt → open_after side code xs m ≡ opens_next side code xs m
unfolding open_answer open_after
open_done side code xs m e = sym (done_unless (open_questions side code xs m) (tt {0}) (tt {0}) (opens_next side code xs m) m (sym e))

give_done : (side : Side) (xs : List ℕ) (m : Meaning) → give_answer side xs m ≡ Ok tt → give_after side xs m ≡ gives_next side xs m
unfolding give_answer give_after
give_done side xs m e = sym (done_unless (give_questions side xs m) (tt {0}) (tt {0}) (gives_next side xs m) m (sym e))

give_stays : (side : Side) (xs : List ℕ) (m : Meaning) (why : Refusal) → give_answer side xs m ≡ Err why → give_after side xs m ≡ m
unfolding give_answer give_after
give_stays side xs m why e = sym (refused_unless (give_questions side xs m) why (tt {0}) (gives_next side xs m) m (sym e))

close_done : (m : Meaning) → close_answer m ≡ Ok tt → close_after m ≡ with_dialogue m m.number closed
unfolding close_answer close_after
close_done m e = sym (done_unless (close_questions m) (tt {0}) (tt {0}) (with_dialogue m m.number closed) m (sym e))

close_stays : (m : Meaning) (why : Refusal) → close_answer m ≡ Err why → close_after m ≡ m
unfolding close_answer close_after
close_stays m why e = sym (refused_unless (close_questions m) why (tt {0}) (with_dialogue m m.number closed) m (sym e))

taken_yes : (o : Option Refusal) (s : Option String) (h : Result ℕ Fault) → taken (taken_by o s) ≡ Ok h → o ≡ None
taken_yes None s h e = refl
taken_yes (Some r) s h e = cc

taken_no : (o : Option Refusal) (s : Option String) (why : Refusal) → taken (taken_by o s) ≡ Err why → o ≡ Some why
taken_no None None why e = cc
taken_no None (Some garbled) why e = cc
taken_no None (Some (octets xs)) why e = cc
taken_no (Some r) s why e = cc

abbrev turned : Side → Meaning → Meaning
turned side m = with_dialogue m m.number (open_with (code_of m) (turn side))

take_done : (side : Side) (m : Meaning) (h : Result ℕ Fault) → taken (take_answer side m) ≡ Ok h → take_after side m ≡ turned side m
unfolding take_answer take_after
take_done side m h e = ap (λ o. unless_of o (turned side m) m) (taken_yes (first_no (take_questions side m)) (string_of m) h e)

take_stays : (side : Side) (place : List ℕ) (m : Meaning) (why : Refusal) → taken (take_answer side m) ≡ Err why → (take_place side place m ≡ place) × (take_after side m ≡ m)
unfolding take_answer take_place take_after
take_stays side place m why e =
    let o = taken_no (first_no (take_questions side m)) (string_of m) why e in
    (ap (λ v. unless_of v (over (string_of m) place) place) o, ap (λ v. unless_of v (turned side m) m) o)

opened : (side : Side) (code xs : List ℕ) (m : Meaning) (l : Listening) → opens side code xs m ≡ Ok l → HasGiven l (open_after side code xs m)
opened side code xs m l e =
    let d = begun_ok (open_answer side code xs m) (λ _. session_in (open_after side code xs m).number side) l e in
    let n : open_after side code xs m ≡ opens_next side code xs m = open_done side code xs m d.said in
    record { dialogue = sym (ap (λ v. v.number) d.is); given = ap stand_of n ∙ sym (ap (λ v. UnderWay (other v.side)) d.is) }

begun : (side : Side) (m : Meaning) (heard : Result ℕ Fault) (s : Speaking) → begins side m ≡ Ok (heard, s) → HasTurn s (take_after side m)
begun side m h s e =
    let d = begun_ok (taken (take_answer side m)) (λ v. (v, session_in (take_after side m).number side)) (h, s) e in
    let n = take_done side m d.value d.said in
    record { dialogue = sym (ap (λ p. p.1.number) d.is); turn = ap stand_of n ∙ sym (ap (λ p. Turn p.1.side) d.is) }

given : (s : Speaking) (xs : List ℕ) (m : Meaning) (l : Listening) → give_in s xs m ≡ Ok l → HasGiven l (give_left s xs m)
given s xs m l e =
    let d = done (eqb m.number s.number) (give_answer s.side xs m) (λ _. listens s) s l e in
    let n = left_new (eqb m.number s.number) (give_after s.side xs m) m d.agree ∙ give_done s.side xs m d.said in
    record {
      dialogue = ap (λ v. v.number) n ∙ eqb-true m.number s.number d.agree ∙ sym (ap (λ v. v.number) d.is);
      given = ap stand_of n ∙ sym (ap (λ v. UnderWay (other v.side)) d.is);
    }

took : (l : Listening) (m : Meaning) (heard : Result ℕ Fault) (s : Speaking) → take_in l m ≡ Ok (heard, s) → HasTurn s (take_left l m)
took l m h s e =
    let d = done (eqb m.number l.number) (taken (take_answer l.side m)) (λ v. (v, speaks l)) l (h, s) e in
    let n = left_new (eqb m.number l.number) (take_after l.side m) m d.agree ∙ take_done l.side m d.value d.said in
    record {
      dialogue = ap (λ v. v.number) n ∙ eqb-true m.number l.number d.agree ∙ sym (ap (λ p. p.1.number) d.is);
      turn = ap stand_of n ∙ sym (ap (λ p. Turn p.1.side) d.is);
    }

ended : {T : Type 0} (s : Session T) (m : Meaning) → close_in s m ≡ Ok tt → stand_of (close_left s m) ≡ Closed
ended s m e =
    let d = done (eqb m.number s.number) (close_answer m) (λ _. tt {0}) s (tt {0}) e in
    ap stand_of (left_new (eqb m.number s.number) (close_after m) m d.agree ∙ close_done m d.said)

pub moves_on : MovesOn
moves_on = record { opened = opened; begun = begun; given = given; taken = took; closed_speaking = ended; closed_listening = ended }

give_refused : (s t : Speaking) (xs : List ℕ) (m : Meaning) (why : Refusal) → give_in s xs m ≡ Err (why, t) → (t ≡ s) × (give_left s xs m ≡ m)
give_refused s t xs m why e =
    let d = refused (eqb m.number s.number) (give_answer s.side xs m) (λ _. listens s) s t why e in
    (d.same_session, left_old (eqb m.number s.number) (give_after s.side xs m) m (elim d.by [ inl n ↦ inl n | inr p ↦ inr (p.0, give_stays s.side xs m why p.1) ]))

take_refused : (l t : Listening) (place : List ℕ) (m : Meaning) (why : Refusal) → take_in l m ≡ Err (why, t) → (t ≡ l) × (place_in l place m ≡ place) × (take_left l m ≡ m)
take_refused l t place m why e =
    let d = refused (eqb m.number l.number) (taken (take_answer l.side m)) (λ v. (v, speaks l)) l t why e in (
      d.same_session,
      left_old (eqb m.number l.number) (take_place l.side place m) place (elim d.by [ inl n ↦ inl n | inr p ↦ inr (p.0, (take_stays l.side place m why p.1).0) ]),
      left_old (eqb m.number l.number) (take_after l.side m) m (elim d.by [ inl n ↦ inl n | inr p ↦ inr (p.0, (take_stays l.side place m why p.1).1) ]),
    )

close_refused : {T : Type 0} (s t : Session T) (m : Meaning) (why : Refusal) → close_in s m ≡ Err (why, t) → (t ≡ s) × (close_left s m ≡ m)
close_refused s t m why e =
    let d = refused (eqb m.number s.number) (close_answer m) (λ _. tt {0}) s t why e in
    (d.same_session, left_old (eqb m.number s.number) (close_after m) m (elim d.by [ inl k ↦ inl k | inr p ↦ inr (p.0, close_stays m why p.1) ]))

pub stays : Stays
stays = record { give = give_refused; take = take_refused; close_speaking = close_refused; close_listening = close_refused }

-- a dialogue with a turn or a string is open
turn_open : (d : Dialogue) (side : Side) → standing_in d ≡ Turn side → is_open_in d ≡ true
turn_open closed side e = cc
turn_open (open_with c s) side e = refl

string_open : (d : Dialogue) (side : Side) → standing_in d ≡ UnderWay side → is_open_in d ≡ true
string_open closed side e = cc
string_open (open_with c s) side e = refl

same_side : (side : Side) → same side side ≡ true
same_side Mobile = refl
same_side Network = refl

give_asks_lem : (side : Side) (xs : List ℕ) (m : Meaning) → stand_of m ≡ Turn side → give_answer side xs m ≡ asked (fit_asks m.longest m.highest xs)
unfolding give_answer
give_asks_lem side xs m e =
    ap (λ b. asked (must b 26 ∷ must (turn_is side (stand_of m)) 27 ∷ fit_asks m.longest m.highest xs)) (turn_open m.dialogue side e)
    ∙ ap (λ b. asked (must b 27 ∷ fit_asks m.longest m.highest xs)) (ap (turn_is side) e ∙ same_side side)

may_give : (s : Speaking) (xs : List ℕ) (m : Meaning) → HasTurn s m → give_in s xs m ≡ result_map_both (λ _. listens s) (λ why. (why, s)) (asked (fit_asks m.longest m.highest xs))
may_give s xs m t =
    ap (λ b. result_map_both (λ _. listens s) (λ why. (why, s)) (before (first_no (must b 26 ∷ [])) (give_answer s.side xs m))) (eq-eqb m.number s.number t.dialogue)
    ∙ ap (result_map_both (λ _. listens s) (λ why. (why, s))) (give_asks_lem s.side xs m t.turn)

-- what a take tells of a string
abbrev tells : Option String → Result ℕ Fault
tells None = Ok 0
tells (Some garbled) = Err (fault_of 40 0 Bearer)
tells (Some (octets xs)) = Ok (length xs)

told_as : (s : Option String) → taken (heard s) ≡ Ok (tells s)
told_as None = refl
told_as (Some garbled) = refl
told_as (Some (octets xs)) = refl

take_asks_lem : (side : Side) (m : Meaning) → stand_of m ≡ UnderWay side → take_answer side m ≡ heard (string_of m)
unfolding take_answer
take_asks_lem side m e =
    ap (λ b. taken_by (first_no (must b 26 ∷ must (is_for side (stand_of m)) 28 ∷ [])) (string_of m)) (string_open m.dialogue side e)
    ∙ ap (λ b. taken_by (first_no (must b 28 ∷ [])) (string_of m)) (ap (is_for side) e ∙ same_side side)

may_take : (l : Listening) (m : Meaning) → m.number ≡ l.number → stand_of m ≡ UnderWay l.side → (heard : Result ℕ Fault) × (take_in l m ≡ Ok (heard, speaks l))
may_take l m n e = (
  tells (string_of m),
  ap (λ b. result_map_both (λ v. (v, speaks l)) (λ why. (why, l)) (before (first_no (must b 26 ∷ [])) (taken (take_answer l.side m)))) (eq-eqb m.number l.number n)
      ∙ ap (result_map_both (λ v. (v, speaks l)) (λ why. (why, l))) (ap taken (take_asks_lem l.side m e) ∙ told_as (string_of m)),
)

pub free : Free
free = record { give = may_give; take = may_take }
