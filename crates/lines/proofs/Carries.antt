-- What a carrier means after its line was written.
use Rattle.std.proofs.Common.{◌≡◌, ℕ, suc, ◌+◌, ◌≤◌, Bool, true, false, ◌&&◌, eqb, leb, List, [], ◌∷◌, ◌++◌, length, take, drop, Some, None, Option, sym, refl, ap, ◌∙◌, arith, eqb-true, le-leb, leb-true}
use lib.Seq.{take-append_seam, drop-append-add}
use Rattle.std.proofs.lemmas.Bool.{and_parts}
use Rattle.std.proofs.lemmas.List.Elements.{All-weaker}
use Rattle.std.proofs.lemmas.List.Folds.{list_all-append}
use Rattle.std.proofs.lemmas.List.Sums.{AllPass-from_list_all, list_all-from_AllPass}
use Rattle.std.specs.List.{list_all}
use Rattle.std.specs.Option.{option_map}
use Rattle.terms.specs.Question.{unless}
use Rattle.terms.specs.Refusal.{must}
use Rattle.bearer.specs.declared.side.Side.{Side}
use Rattle.bearer.specs.declared.side.Side.TheVariants.{Mobile, Network}
use Rattle.bearer.specs.declared.side.Standing.TheVariants as standing
use Rattle.bearer.specs.declared.side.Highest.{Highest}
use Rattle.bearer.specs.declared.side.Highest.TheVariants.{Seven, Eight}
use Rattle.bearer.specs.Side.{other, highest_octet}
use Rattle.bearer.specs.Meaning.{Meaning, code_octets, open_with, under_way, String, garbled, octets, digit, digits, lawful_code, low, standing_in, turn_is, code_in}
use Rattle.lines.specs.declared.place.Place.{Place}
use Rattle.lines.specs.declared.state.Phase.{Phase}
use Rattle.lines.specs.declared.state.Phase.TheVariants.{Closed, Turn, Opening, UnderWay}
use Rattle.lines.specs.declared.state.Carrier.{Carrier}
use Rattle.lines.specs.Line.{LawfulLine}
use Rattle.lines.specs.Frame.{frame, middle, parts}
use Rattle.lines.specs.State.{heard_of, opens, opens_by, opens_with, dialogue_in, place_in, stands_as}
use Rattle.lines.proofs.Frames.{middle_frame, digits_frame}

-- what a carrier means with these octets on its line
abbrev pub means : {L : Type 0} → (Place → List ℕ → Option (List ℕ)) → Carrier L → List ℕ → Meaning
means read_as b line =
    record {
      longest = 152;
      highest = b.highest;
      number = b.number;
      dialogue = dialogue_in b.phase (code_octets b.code) (highest_octet b.highest) (read_as (place_in b.phase b.number) line);
    }

pub heard_low : (h : ℕ) (xs : List ℕ) → length xs ≤ 152 → low h xs ≡ true → heard_of h (Some xs) ≡ octets xs
heard_low h xs a b = let a2 = le-leb (length xs) 152 a in simp (a2, b)

-- a mobile's opening is heard as it was framed
parts_frame : (code xs : List ℕ) → lawful_code Mobile code ≡ true → parts (frame code xs) ≡ Some (code, xs)
parts_frame code xs l =
    let p = and_parts (leb 2 (length code)) (leb (length code) 4 && digits code) l in
    let q = and_parts (leb (length code) 4) (digits code) p.1 in
    let zs = frame code xs in
    let at : ℕ → List ℕ → List ℕ × List ℕ = λ k z. (take k z, drop (k + 1) z) in
    ap (option_map (λ k. at k (middle zs))) (digits_frame code xs q.1 (leb-true 2 (length code) p.0) (leb-true (length code) 4 q.0))
    ∙ ap (λ z. Some (at (length code) z)) (middle_frame code xs)
    ∙ ap (λ z. Some (z, drop (length code + 1) (code ++ (0x2A ∷ xs)))) (take-append_seam code (0x2A ∷ xs))
    ∙ ap (λ z. Some (code, z)) (drop-append-add code (0x2A ∷ xs) 1)

framed_heard : (h : ℕ) (code xs : List ℕ) → lawful_code Mobile code ≡ true → length xs ≤ 152 → low h xs ≡ true → opens h (Some (frame code xs)) ≡ open_with code (under_way Network (octets xs))
framed_heard h code xs l long lw = ap (opens_by h) (parts_frame code xs l) ∙ ap (opens_with code) (heard_low h xs long lw)

empty : (xs : List ℕ) → eqb (length xs) 0 ≡ true → [] ≡ xs
empty [] e = refl
empty (x ∷ xs) e = let z : suc (length xs) ≡ 0 = eqb-true (suc (length xs)) 0 e in absurd (omega arith)

-- an opening that is read as it stands
pub opening_heard : (side : Side) (h : ℕ) (code xs old : List ℕ) (o : Option (List ℕ)) → lawful_code side code ≡ true → length xs ≤ 152 → low h xs ≡ true → o ≡ Some (stands_as side code xs)
    → dialogue_in (Opening (other side)) old h o ≡ open_with code (under_way (other side) (octets xs))
opening_heard Mobile h code xs old o l long lw e = ap (opens h) e ∙ framed_heard h code xs l long lw
opening_heard Network h code xs old o l long lw e =
    ap (λ v. open_with [] (under_way Mobile (heard_of h v))) e ∙ ap (λ s. open_with [] (under_way Mobile s)) (heard_low h xs long lw) ∙ ap (λ c. open_with c (under_way Mobile (octets xs))) (empty code l)

pub code_short : (side : Side) (code : List ℕ) → lawful_code side code ≡ true → length code ≤ 4
code_short Mobile code l =
    let p = and_parts (leb 2 (length code)) (leb (length code) 4 && digits code) l in
    leb-true (length code) 4 (and_parts (leb (length code) 4) (digits code) p.1).0
code_short Network code l = omega (arith, eqb-true (length code) 0 l)

-- the standing of an opening
stands_with : (code : List ℕ) (s : String) → standing_in (opens_with code s) ≡ standing.UnderWay Network
stands_with code garbled = refl
stands_with code (octets xs) = refl

stands_by : (h : ℕ) (o : Option (List ℕ × List ℕ)) → standing_in (opens_by h o) ≡ standing.UnderWay Network
stands_by h None = refl
stands_by h (Some p) = stands_with p.0 (heard_of h (Some p.1))

stands_open : (h : ℕ) (o : Option (List ℕ)) → standing_in (opens h o) ≡ standing.UnderWay Network
stands_open h None = refl
stands_open h (Some zs) = stands_by h (parts zs)

-- whoever has the turn finds the code that was kept
pub turn_code : (p : Phase) (side : Side) (code : List ℕ) (h : ℕ) (o : Option (List ℕ)) → turn_is side (standing_in (dialogue_in p code h o)) ≡ true → code_in (dialogue_in p code h o) ≡ code
turn_code Closed side code h o e = cc
turn_code (Turn s) side code h o e = refl
turn_code (Opening Mobile) side code h o e = cc
turn_code (Opening Network) side code h o e = let q : false ≡ true = sym (ap (turn_is side) (stands_open h o)) ∙ e in cc
turn_code (UnderWay s) side code h o e = refl

module _ (room : ℕ) (written : Place → List ℕ → List ℕ) (read_as : Place → List ℕ → Option (List ℕ)) (law : LawfulLine room written read_as) where
  -- a string that was written stands on the line, and is read
  pub line_written : (p : Place) (xs new old : List ℕ) → length xs ≤ 160 → new ≡ unless (must (leb (length xs) 160) 29 ∷ []) (written p xs) old → new ≡ written p xs
  line_written p xs new old h e = let b = le-leb (length xs) 160 h in e ∙ simp b

  pub line_read : (p : Place) (xs new old : List ℕ) → length xs ≤ 160 → low 255 xs ≡ true → new ≡ unless (must (leb (length xs) 160) 29 ∷ []) (written p xs) old → read_as p new ≡ Some xs
  line_read p xs new old h w e = ap (read_as p) (line_written p xs new old h e) ∙ law.back p xs h w

-- octets that pass one test pass another that asks less
all_weaker : (p q : ℕ → Bool) (xs : List ℕ) → ((x : ℕ) → p x ≡ true → q x ≡ true) → list_all p xs ≡ true → list_all q xs ≡ true
all_weaker p q xs w e = list_all-from_AllPass q xs (All-weaker (λ x. p x ≡ true) (λ x. q x ≡ true) w xs (AllPass-from_list_all p xs e))

highest_octet_lem : (h : Highest) → highest_octet h ≤ 255
highest_octet_lem Seven = omega arith
highest_octet_lem Eight = omega arith

-- octets that are low enough for a bearer are octets
pub low_octets : (h : Highest) (xs : List ℕ) → low (highest_octet h) xs ≡ true → low 255 xs ≡ true
low_octets h xs e = all_weaker (λ x. leb x (highest_octet h)) (λ x. leb x 255) xs (λ x l. le-leb x 255 (omega (arith, leb-true x (highest_octet h) l, highest_octet_lem h))) e

low_append : (k : ℕ) (xs ys : List ℕ) → low k xs ≡ true → low k ys ≡ true → low k (xs ++ ys) ≡ true
low_append k xs ys a b = list_all-append (λ x. leb x k) xs ys ∙ ap (λ v. v && low k ys) a ∙ b

low_digits : (xs : List ℕ) → digits xs ≡ true → low 255 xs ≡ true
low_digits xs e =
    all_weaker (λ x. digit x) (λ x. leb x 255) xs (λ x l. let q = and_parts (leb 0x30 x) (leb x 0x39) l in le-leb x 255 (omega (arith, leb-true x 0x39 q.1))) e

pub stands_low : (side : Side) (code xs : List ℕ) → lawful_code side code ≡ true → low 255 xs ≡ true → low 255 (stands_as side code xs) ≡ true
stands_low Mobile code xs l e =
    let p = and_parts (leb 2 (length code)) (leb (length code) 4 && digits code) l in
    let q = and_parts (leb (length code) 4) (digits code) p.1 in
    low_append 255 code (0x2A ∷ (xs ++ (0x23 ∷ []))) (low_digits code q.1) (low_append 255 xs (0x23 ∷ []) e refl)
stands_low Network code xs l e = e
