-- A call of the bearer above is one of the bearer below, with the encoding.
use Rattle.std.specs.Prelude.{◌≡◌, ℕ, ◌+◌, ◌≤◌, Bool, true, false, cond, not, List, [], ◌++◌, length, take, drop, IfOk, Some, None, Ok, Err, Option, Result, ◌≢◌, nat_le}
use Rattle.std.proofs.Math.Path.{refl, sym, ap}
use Rattle.std.proofs.Common.{subst, ◌∙◌, arith, le-leb, leb-true}
use Rattle.std.proofs.Math.Seq.{take-append_seam}
use Rattle.terms.specs.declared.refusal.Refusal.{Refusal}
use Rattle.terms.specs.declared.refusal.Refusal.TheVariants.{NotOpen}
use Rattle.terms.specs.declared.stop.Stop.{Stop}
use Rattle.terms.specs.declared.stop.Stop.TheVariants.{Refused}
use Rattle.terms.specs.Question.{asked, first_no, told_of, unless_of}
use Rattle.terms.specs.Laws.{AllHold}
use Rattle.terms.proofs.Questions.{told_holds, told_all}
use Rattle.bearer.specs.declared.side.Side.{Side}
use Rattle.bearer.specs.declared.side.Highest.{Highest}
use Rattle.bearer.specs.declared.side.Highest.TheVariants.{Seven, Eight}
use Rattle.bearer.specs.declared.told.Told.{Told}
use Rattle.bearer.specs.declared.heard.Garbled.{Garbled}
use Rattle.bearer.specs.Side.{other, highest_octet}
use Rattle.bearer.specs.Meaning.{Meaning, Figured, Within, tells, open_asks, give_asks, Dialogue, closed, open_with, turn, under_way, String, garbled, octets, low, is_open, is_open_in, stand_of, standing_in, code_of, code_in, turn_is, string_of, string_in, text_of, text_in, over, heard, heard_text, taken_by, with_dialogue, open_questions, opens_next, open_answer, open_after, give_questions, gives_next, give_answer, give_after, take_questions, take_asks, take_answer, take_place, take_after, close_answer, close_after}
use Rattle.bearer.proofs.Calls.{asks_open, asks_give, open_done, give_done, Takes, take_refused, take_done, turned, text_heard, heard_short, made_is}
use Rattle.terms.specs.AtMost.{Octets}
use Rattle.coding.specs.Coding.{Lawful, most}
use Rattle.coding.proofs.Most.{most_within, most_top}
use Rattle.coded.specs.Coded.{string_from, string_above, dialogue_above, above}
use Rattle.coded.specs.Strings.{low_of, fits, shorter}

-- a bearer carries at least seven bits an octet
least : (h : Highest) → 127 ≤ highest_octet h
least Seven = omega arith
least Eight = omega arith

module _ (decoded : List ℕ → Option (List ℕ)) where
  pub open_above : (d : Dialogue) → is_open_in (dialogue_above decoded d) ≡ is_open_in d
  open_above closed = refl
  open_above (open_with c s) = refl

  pub standing_above : (d : Dialogue) → standing_in (dialogue_above decoded d) ≡ standing_in d
  standing_above closed = refl
  standing_above (open_with c (turn s)) = refl
  standing_above (open_with c (under_way s x)) = refl

  pub code_above : (d : Dialogue) → code_in (dialogue_above decoded d) ≡ code_in d
  code_above closed = refl
  code_above (open_with c s) = refl

module _ {top : ℕ} {encoded : List ℕ → List ℕ} {decoded : List ℕ → Option (List ℕ)} {size : ℕ → ℕ} (laws : Lawful top encoded decoded size) where
  -- by the constant alone, the bearer below refuses no octet of an encoding
  low_below : (h : Highest) (xs : List ℕ) → Octets xs → low (highest_octet h) (encoded xs) ≡ true
  low_below h xs o = low_of top (highest_octet h) (encoded xs) (omega (arith, laws.small, least h)) (laws.below xs o)

  short_below : (m : Meaning) (xs : List ℕ) → nat_le (length xs) (most size m.longest) ≡ true → nat_le (length (encoded xs)) m.longest ≡ true
  short_below m xs e = le-leb (length (encoded xs)) m.longest (fits laws m.longest xs (leb-true (length xs) (most size m.longest) e))

  -- what the bearer above tells of itself answers the questions of a call
  pub told_open : (side : Side) (code xs : List ℕ) (m : Meaning) (t : Told) (r : Result (Unit {0}) Refusal) → t ≡ tells (above decoded size m) → r ≡ asked (open_asks t.is_open t.longest t.highest t.number side code xs)
      → r ≡ asked (open_questions side code xs (above decoded size m))
  told_open side code xs m t r e a = a ∙ asks_open side code xs (above decoded size m) t e

  pub told_give : (side : Side) (xs : List ℕ) (m : Meaning) (t : Told) (r : Result (Unit {0}) Refusal) → t ≡ tells (above decoded size m) → r ≡ asked (give_asks t.is_open t.standing t.longest t.highest side xs)
      → r ≡ asked (give_questions side xs (above decoded size m))
  told_give side xs m t r e a = a ∙ asks_give side xs (above decoded size m) t e

  -- what the bearer above would carry, the one below carries encoded
  pub opens : (side : Side) (code xs zs : List ℕ) (m n : Meaning) (r : Result (Unit {0}) Refusal) → Octets xs → zs ≡ encoded xs → Ok tt ≡ asked (open_questions side code xs (above decoded size m))
      → r ≡ open_answer side code zs m → n ≡ open_after side code zs m → (r ≡ open_answer side code xs (above decoded size m)) × (above decoded size n ≡ open_after side code xs (above decoded size m))
  opens side code xs zs m n r o z q a b =
      let h = told_holds (open_questions side code xs (above decoded size m)) (tt {0}) tt (sym q) in
      let all : AllHold (open_questions side code (encoded xs) m) =
      (ap not (sym (open_above decoded m.dialogue)) ∙ h.0, (h.1.0, (short_below m xs h.1.1.0, (low_below m.highest xs o, (h.1.1.1.1.0, tt))))) in
      let done = open_done side code (encoded xs) m (opens_next side code (encoded xs) m) (sym (told_all (open_questions side code (encoded xs) m) (tt {0}) all)) refl in
      let next : above decoded size n ≡ opens_next side code xs (above decoded size m) =
      ap (above decoded size) (b ∙ ap (λ v. open_after side code v m) z ∙ sym done.1) ∙ ap (λ v. with_dialogue (above decoded size m) (m.number + 1) (open_with code (under_way (other side) (string_from v)))) (laws.back xs o) in
      let mine = open_done side code xs (above decoded size m) (above decoded size n) q next in
      (a ∙ ap (λ v. open_answer side code v m) z ∙ sym done.0 ∙ mine.0, mine.1)

  pub gives : (side : Side) (xs zs : List ℕ) (m n : Meaning) (r : Result (Unit {0}) Refusal) → Octets xs → zs ≡ encoded xs → Ok tt ≡ asked (give_questions side xs (above decoded size m))
      → r ≡ give_answer side zs m → n ≡ give_after side zs m → (r ≡ give_answer side xs (above decoded size m)) × (above decoded size n ≡ give_after side xs (above decoded size m))
  gives side xs zs m n r o z q a b =
      let h = told_holds (give_questions side xs (above decoded size m)) (tt {0}) tt (sym q) in
      let all : AllHold (give_questions side (encoded xs) m) =
      (sym (open_above decoded m.dialogue) ∙ h.0, (ap (turn_is side) (sym (standing_above decoded m.dialogue)) ∙ h.1.0, (short_below m xs h.1.1.0, (low_below m.highest xs o, tt)))) in
      let done = give_done side (encoded xs) m (gives_next side (encoded xs) m) (sym (told_all (give_questions side (encoded xs) m) (tt {0}) all)) refl in
      let next : above decoded size n ≡ gives_next side xs (above decoded size m) =
      ap (above decoded size) (b ∙ ap (λ v. give_after side v m) z ∙ sym done.1)
      ∙ ap (λ v. with_dialogue (above decoded size m) m.number (open_with (code_of m) (under_way (other side) (string_from v)))) (laws.back xs o)
      ∙ ap (λ v. with_dialogue (above decoded size m) m.number (open_with v (under_way (other side) (octets xs)))) (sym (code_above decoded m.dialogue)) in
      let mine = give_done side xs (above decoded size m) (above decoded size n) q next in
      (a ∙ ap (λ v. give_answer side v m) z ∙ sym done.0 ∙ mine.0, mine.1)

  -- closing and losing
  shuts : (o : Bool) (a b : Meaning) → above decoded size (unless_of (cond o None (Some NotOpen)) a b) ≡ unless_of (cond o None (Some NotOpen)) (above decoded size a) (above decoded size b)
  shuts true a b = refl
  shuts false a b = refl

  pub closes : (m n : Meaning) (r : Result (Unit {0}) Refusal) → r ≡ close_answer m → n ≡ close_after m → (r ≡ close_answer (above decoded size m)) × (above decoded size n ≡ close_after (above decoded size m))
  unfolding close_answer close_after
  closes m n r a b =
      let o = sym (open_above decoded m.dialogue) in
      let end : Meaning = with_dialogue m m.number closed in (
        a ∙ ap (λ v. told_of (cond v None (Some NotOpen)) (tt {0})) o,
        ap (above decoded size) b ∙ shuts (is_open m) end m ∙ ap (λ v. unless_of (cond v None (Some NotOpen)) (above decoded size end) (above decoded size m)) o,
      )

  asks_above : (side : Side) (m : Meaning) → take_questions side (above decoded size m) ≡ take_questions side m
  asks_above side m =
      ap (λ v. take_asks v (stand_of (above decoded size m)) side) (open_above decoded m.dialogue) ∙ ap (λ v. take_asks (is_open m) v side) (standing_above decoded m.dialogue)

  turn_above : (side : Side) (m : Meaning) → above decoded size (turned side m) ≡ turned side (above decoded size m)
  turn_above side m = ap (λ v. with_dialogue (above decoded size m) m.number (open_with v (turn side))) (sym (code_above decoded m.dialogue))

  abbrev pub option_above : Option String → Option String
  option_above None = None
  option_above (Some x) = Some (string_above decoded x)

  string_above_lem : (d : Dialogue) → string_in (dialogue_above decoded d) ≡ option_above (string_in d)
  string_above_lem closed = refl
  string_above_lem (open_with c (turn s)) = refl
  string_above_lem (open_with c (under_way s x)) = refl

  -- where a take is not refused, there is a string
  some_string : (side : Side) (d : Dialogue) → first_no (take_asks (is_open_in d) (standing_in d) side) ≡ None → string_in d ≢ None
  some_string side closed e f = cc
  some_string side (open_with c (turn s)) e f = cc
  some_string side (open_with c (under_way s x)) e f = cc

  -- a take that is refused below
  refuses : (side : Side) (place : List ℕ) (m : Meaning) (q : Refusal) → first_no (take_questions side m) ≡ Some q → Takes side place (above decoded size m) (Err (Refused q)) place (above decoded size (take_after side m))
  refuses side place m q e =
      let up = above decoded size m in
      let asks : Err q ≡ asked (take_questions side m) = sym (ap (λ v. told_of v (tt {0})) e) in
      let below = take_refused side [] m q asks in
      let t = take_refused side place up q (asks ∙ ap asked (sym (asks_above side m))) in
      record { answer = t.answer; copied = t.copied; after = ap (above decoded size) (sym below.after) ∙ t.after }

  -- one that is not
  accepts : (side : Side) (place new : List ℕ) (m : Meaning) (x : String) (r : Result ℕ Stop) → first_no (take_questions side m) ≡ None → string_of m ≡ Some x
      → r ≡ heard (Some (string_above decoded x)) → new ≡ over (Some (string_above decoded x)) place → Takes side place (above decoded size m) r new (above decoded size (take_after side m))
  accepts side place new m x r e f a b =
      let up = above decoded size m in
      let asks : Ok tt ≡ asked (take_questions side m) = sym (ap (λ v. told_of v (tt {0})) e) in
      let below = take_done side [] m (heard (string_of m)) (over (string_of m) []) (turned side m) asks refl refl refl in
      let string : string_of up ≡ Some (string_above decoded x) = string_above_lem m.dialogue ∙ ap option_above f in
      take_done side place up r new (above decoded size (take_after side m)) (asks ∙ ap asked (sym (asks_above side m))) (a ∙ ap heard (sym string)) (b ∙ ap (λ v. over v place) (sym string))
      (ap (above decoded size) (sym below.after) ∙ turn_above side m)

  err_by : (side : Side) (place : List ℕ) (m : Meaning) (y : Stop) (o : Option Refusal) (s : Option String) → first_no (take_questions side m) ≡ o → string_of m ≡ s → Err y ≡ taken_by o s
      → Takes side place (above decoded size m) (Err y) place (above decoded size (take_after side m))
  err_by side place m y (Some q) s e f a =
      let z : y ≡ Refused q = cc in
      let t = refuses side place m q e in
      record { answer = ap Err z ∙ t.answer; copied = t.copied; after = t.after }
  err_by side place m y None None e f a = absurd (some_string side m.dialogue e f)
  err_by side place m y None (Some garbled) e f a = accepts side place place m garbled (Err y) e f a refl
  err_by side place m y None (Some (octets ys)) e f a = cc

  pub takes_err : (side : Side) (place : List ℕ) (m n : Meaning) (y : Stop) → Err y ≡ take_answer side m → n ≡ take_after side m → Takes side place (above decoded size m) (Err y) place (above decoded size n)
  unfolding take_answer
  takes_err side place m n y a b =
      let t = err_by side place m y (first_no (take_questions side m)) (string_of m) refl refl a in
      record { answer = t.answer; copied = t.copied; after = ap (above decoded size) b ∙ t.after }

  -- what was copied below is the string under way
  front : (ys old string : List ℕ) (k : ℕ) → k ≡ length ys → string ≡ ys ++ drop (length ys) old → take k string ≡ ys
  front ys old string k e f = ap (λ v. take v string) e ∙ ap (take (length ys)) f ∙ take-append_seam ys (drop (length ys) old)

  ok_by : (side : Side) (place new old string : List ℕ) (m : Meaning) (k : ℕ) (t : Result ℕ Garbled) (o : Option Refusal) (s : Option String) → first_no (take_questions side m) ≡ o → string_of m ≡ s → Ok k ≡ taken_by o s
      → string ≡ unless_of o (over s old) old → t ≡ text_in (string_from (decoded (take k string))) → new ≡ over (Some (string_from (decoded (take k string)))) place
      → Takes side place (above decoded size m) (heard_text (Some t)) new (above decoded size (take_after side m))
  ok_by side place new old string m k t (Some q) s e f a b h g = cc
  ok_by side place new old string m k t None None e f a b h g = absurd (some_string side m.dialogue e f)
  ok_by side place new old string m k t None (Some garbled) e f a b h g = cc
  ok_by side place new old string m k t None (Some (octets ys)) e f a b h g =
      let c : k ≡ length ys = cc in
      let part = front ys old string k c b in
      accepts side place new m (octets ys) (heard_text (Some t)) e f (ap (λ v. heard_text (Some v)) h ∙ text_heard (Some (string_from (decoded (take k string)))) ∙ ap (λ v. heard (Some (string_from (decoded v)))) part) (g ∙ ap (λ v. over (Some (string_from (decoded v))) place) part)

  pub takes_ok : (side : Side) (place new old string : List ℕ) (m n : Meaning) (k : ℕ) (t : Result ℕ Garbled) → Ok k ≡ take_answer side m → string ≡ take_place side old m → n ≡ take_after side m
      → t ≡ text_in (string_from (decoded (take k string))) → new ≡ over (Some (string_from (decoded (take k string)))) place
      → Takes side place (above decoded size m) (heard_text (Some t)) new (above decoded size n)
  unfolding take_answer take_place
  takes_ok side place new old string m n k t a b w h g =
      let z = ok_by side place new old string m k t (first_no (take_questions side m)) (string_of m) refl refl a b h g in
      record { answer = z.answer; copied = z.copied; after = ap (above decoded size) w ∙ z.after }

  -- the string under way, told and copied
  pub tells_by : (s : Option String) (place new old string : List ℕ) (k : ℕ) (t : Result ℕ Garbled) → Some (Ok k) ≡ text_of s → string ≡ over s old
      → t ≡ text_in (string_from (decoded (take k string))) → new ≡ over (Some (string_from (decoded (take k string)))) place
      → (Some t ≡ text_of (option_above s)) × (new ≡ over (option_above s) place)
  tells_by None place new old string k t a b h g = cc
  tells_by (Some garbled) place new old string k t a b h g = cc
  tells_by (Some (octets ys)) place new old string k t a b h g =
      let c : k ≡ length ys = cc in
      let part = front ys old string k c b in
      (ap Some (h ∙ ap (λ v. text_in (string_from (decoded v))) part), g ∙ ap (λ v. over (Some (string_from (decoded v))) place) part)

  pub told_above : (m : Meaning) (place new old string : List ℕ) (k : ℕ) (t : Result ℕ Garbled) → Some (Ok k) ≡ text_of (string_of m) → string ≡ over (string_of m) old
      → t ≡ text_in (string_from (decoded (take k string))) → new ≡ over (Some (string_from (decoded (take k string)))) place
      → (Some t ≡ text_of (string_of (above decoded size m))) × (new ≡ over (string_of (above decoded size m)) place)
  told_above m place new old string k t a b h g =
      let p = tells_by (string_of m) place new old string k t a b h g in
      (p.0 ∙ ap text_of (sym (string_above_lem m.dialogue)), p.1 ∙ ap (λ v. over v place) (sym (string_above_lem m.dialogue)))

  -- a decoded string lies within the figures of the pile
  within_from : (l : ℕ) (ys : List ℕ) (o : Option (List ℕ)) → decoded ys ≡ o → length ys ≤ l → Within (most size l) 255 (Some (string_from o))
  within_from l ys None e h = tt
  within_from l ys (Some xs) e h =
      (most_top size laws.none laws.grows l (length xs) (omega (arith, shorter laws ys xs e)), low_of 255 255 xs (omega arith) (laws.only ys xs e).0)

  within_by : (l h : ℕ) (s : Option String) → Within l h s → Within (most size l) 255 (option_above s)
  within_by l h None w = tt
  within_by l h (Some garbled) w = tt
  within_by l h (Some (octets ys)) w = within_from l ys (decoded ys) refl w.0

  -- a string that was decoded is no longer than 152 octets, as what was decoded
  pub told_short : (ys : List ℕ) (t : Result ℕ Garbled) → length ys ≤ 152 → t ≡ text_in (string_from (decoded ys)) → IfOk (heard_text (Some t)) (λ n. n ≤ 152)
  told_short ys t h e =
      let s = Some (string_from (decoded ys)) in
      made_is (λ n. n ≤ 152) (heard_text (Some t)) (heard s) (ap (λ v. heard_text (Some v)) e ∙ text_heard s)
      (heard_short s (most size 152) 255 (most_within size laws.none laws.grows 152) (within_from 152 ys (decoded ys) refl h))

  pub figured_above : (m : Meaning) → Figured m → Figured (above decoded size m)
  figured_above m f =
      record {
        long = omega (arith, f.long, most_within size laws.none laws.grows m.longest);
        code = omega (arith, f.code, ap length (code_above decoded m.dialogue));
        within = subst (Within (most size m.longest) 255) (sym (string_above_lem m.dialogue)) (within_by m.longest (highest_octet m.highest) (string_of m) f.within);
      }
