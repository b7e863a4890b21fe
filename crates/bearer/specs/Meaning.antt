-- What a bearer means, and what each call makes of it.
use Rattle.std.specs.Prelude.{◌≡◌, ℕ, ◌+◌, ◌≤◌, Bool, true, false, not, ◌&&◌, List, [], ◌∷◌, ◌++◌, length, drop, Some, None, Ok, Err, Option, Result, ◌==◌, nat_le, nat_lt}
use Rattle.std.specs.List.{list_all}
use Rattle.terms.specs.declared.refusal.Refusal.{Refusal}
use Rattle.terms.specs.declared.fault.Layer.TheVariants.{Bearer}
use Rattle.terms.specs.declared.stop.Stop.{Stop}
use Rattle.terms.specs.declared.stop.Stop.TheVariants.{Refused, Faulty}
use Rattle.terms.specs.declared.octets.Octets.{Octets}
use Rattle.terms.specs.Octets.{octets_of}
use Rattle.terms.specs.Question.{Question, first_no, told, unless}
use Rattle.terms.specs.Refusal.{must}
use Rattle.terms.specs.Cause.{fault_of}
use Rattle.bearer.specs.declared.side.Side.{Side}
use Rattle.bearer.specs.declared.side.Side.TheVariants.{Mobile, Network}
use Rattle.bearer.specs.declared.side.Standing.{Standing}
use Rattle.bearer.specs.declared.side.Standing.TheVariants.{Closed, Turn, UnderWay}
use Rattle.bearer.specs.declared.side.Highest.{Highest}
use Rattle.bearer.specs.declared.heard.Garbled.{Garbled}
use Rattle.bearer.specs.declared.told.Told.{Told}
use Rattle.bearer.specs.Side.{other, same, highest_octet}

-- a string under way: garbled, or octets
pub data String : Type 0 where
  garbled : String
  octets : List ℕ → String

-- whose turn it is, or to whom a string is under way
pub data Stand : Type 0 where
  turn : Side → Stand
  under_way : Side → String → Stand

-- no dialogue, or one with its service code; an empty code stands for none
pub data Dialogue : Type 0 where
  closed : Dialogue
  open_with : (code : List ℕ) → Stand → Dialogue

-- the two figures, the number of the latest dialogue, and the dialogue
pub record Meaning : Type 0 where
  pub longest : ℕ
  pub highest : Highest
  pub number : ℕ
  pub dialogue : Dialogue

abbrev pub is_open_in : Dialogue → Bool
is_open_in closed = false
is_open_in (open_with c s) = true

abbrev pub is_open : Meaning → Bool
is_open m = is_open_in m.dialogue

abbrev pub standing_in : Dialogue → Standing
standing_in closed = Closed
standing_in (open_with c (turn s)) = Turn s
standing_in (open_with c (under_way s x)) = UnderWay s

abbrev pub stand_of : Meaning → Standing
stand_of m = standing_in m.dialogue

-- what a bearer tells of itself
abbrev pub tells : Meaning → Told
tells m = record { is_open = is_open m; standing = stand_of m; number = m.number; longest = m.longest; highest = m.highest }

abbrev pub code_in : Dialogue → List ℕ
code_in closed = []
code_in (open_with c s) = c

abbrev pub code_of : Meaning → List ℕ
code_of m = code_in m.dialogue

abbrev pub string_in : Dialogue → Option String
string_in closed = None
string_in (open_with c (turn s)) = None
string_in (open_with c (under_way s x)) = Some x

-- the string under way, if there is one
abbrev pub string_of : Meaning → Option String
string_of m = string_in m.dialogue

abbrev pub digit : ℕ → Bool
digit x = nat_le 0x30 x && nat_le x 0x39

abbrev pub digits : List ℕ → Bool
digits xs = list_all (λ x. digit x) xs

-- a mobile has a service code of two to four digits, a network none
abbrev pub lawful_code : Side → List ℕ → Bool
lawful_code Mobile code = nat_le 2 (length code) && (nat_le (length code) 4 && digits code)
lawful_code Network code = length code == 0

-- no octet is above h
abbrev pub low : ℕ → List ℕ → Bool
low h xs = list_all (λ x. nat_le x h) xs

abbrev pub turn_is : Side → Standing → Bool
turn_is side Closed = false
turn_is side (Turn s) = same side s
turn_is side (UnderWay s) = false

abbrev pub is_for : Side → Standing → Bool
is_for side Closed = false
is_for side (Turn s) = false
is_for side (UnderWay s) = same side s

-- a string lies within the two figures
abbrev pub Within : ℕ → ℕ → Option String → Type 0
Within l h None = Unit {0}
Within l h (Some garbled) = Unit {0}
Within l h (Some (octets xs)) = (length xs ≤ l) × (low h xs ≡ true)

-- the longest string has at most 152 octets, a code four, and a string under way lies within the figures
pub record Figured (m : Meaning) : Type 0 where
  pub long : m.longest ≤ 152
  pub code : length (code_of m) ≤ 4
  pub within : Within m.longest (highest_octet m.highest) (string_of m)

abbrev pub last_number : ℕ
last_number = 4294967295

abbrev pub with_dialogue : Meaning → ℕ → Dialogue → Meaning
with_dialogue m n d = record { longest = m.longest; highest = m.highest; number = n; dialogue = d }

-- short enough, and its octets low enough
abbrev pub fit_asks : ℕ → Highest → List ℕ → List (Question Refusal)
fit_asks longest highest xs = must (nat_le (length xs) longest) 23 ∷ must (low (highest_octet highest) xs) 24 ∷ []

-- open: closed? code lawful? fits? a number left?
abbrev pub open_asks : Bool → ℕ → Highest → ℕ → Side → List ℕ → List ℕ → List (Question Refusal)
open_asks o longest highest number side code xs =
    must (not o) 21 ∷ must (lawful_code side code) 22 ∷ (fit_asks longest highest xs ++ (must (nat_lt number last_number) 25 ∷ []))

abbrev pub open_questions : Side → List ℕ → List ℕ → Meaning → List (Question Refusal)
open_questions side code xs m = open_asks (is_open m) m.longest m.highest m.number side code xs

unfoldable pub open_answer : Side → List ℕ → List ℕ → Meaning → Result (Unit {0}) Refusal
open_answer side code xs m = told (open_questions side code xs m) tt

-- the next number, the code, and the octets under way to the other side
abbrev pub opens_next : Side → List ℕ → List ℕ → Meaning → Meaning
opens_next side code xs m = with_dialogue m (m.number + 1) (open_with code (under_way (other side) (octets xs)))

unfoldable pub open_after : Side → List ℕ → List ℕ → Meaning → Meaning
open_after side code xs m = unless (open_questions side code xs m) (opens_next side code xs m) m

-- give: open? your turn? fits?
abbrev pub give_asks : Bool → Standing → ℕ → Highest → Side → List ℕ → List (Question Refusal)
give_asks o standing longest highest side xs = must o 26 ∷ must (turn_is side standing) 27 ∷ fit_asks longest highest xs

abbrev pub give_questions : Side → List ℕ → Meaning → List (Question Refusal)
give_questions side xs m = give_asks (is_open m) (stand_of m) m.longest m.highest side xs

unfoldable pub give_answer : Side → List ℕ → Meaning → Result (Unit {0}) Refusal
give_answer side xs m = told (give_questions side xs m) tt

abbrev pub gives_next : Side → List ℕ → Meaning → Meaning
gives_next side xs m = with_dialogue m m.number (open_with (code_of m) (under_way (other side) (octets xs)))

unfoldable pub give_after : Side → List ℕ → Meaning → Meaning
give_after side xs m = unless (give_questions side xs m) (gives_next side xs m) m

-- take: open? a string for you?
abbrev pub take_asks : Bool → Standing → Side → List (Question Refusal)
take_asks o standing side = must o 26 ∷ must (is_for side standing) 28 ∷ []

abbrev pub take_questions : Side → Meaning → List (Question Refusal)
take_questions side m = take_asks (is_open m) (stand_of m) side

-- garbled is fault 40 at place 0; the octets' count otherwise
abbrev pub heard : Option String → Result ℕ Stop
heard None = Ok 0
heard (Some garbled) = Err (Faulty (fault_of 40 0 Bearer))
heard (Some (octets xs)) = Ok (length xs)

abbrev pub taken_by : Option Refusal → Option String → Result ℕ Stop
taken_by None s = heard s
taken_by (Some r) s = Err (Refused r)

unfoldable pub take_answer : Side → Meaning → Result ℕ Stop
take_answer side m = taken_by (first_no (take_questions side m)) (string_of m)

-- octets over the front of a place, those beyond kept; nothing is copied of a garbled string
abbrev pub over : Option String → List ℕ → List ℕ
over None place = place
over (Some garbled) place = place
over (Some (octets xs)) place = xs ++ drop (length xs) place

unfoldable pub take_place : Side → List ℕ → Meaning → List ℕ
take_place side place m = unless (take_questions side m) (over (string_of m) place) place

-- the turn is then with the taker
unfoldable pub take_after : Side → Meaning → Meaning
take_after side m = unless (take_questions side m) (with_dialogue m m.number (open_with (code_of m) (turn side))) m

-- close and lose: open?
abbrev pub close_asks : Bool → List (Question Refusal)
close_asks o = must o 26 ∷ []

abbrev pub close_questions : Meaning → List (Question Refusal)
close_questions m = close_asks (is_open m)

unfoldable pub close_answer : Meaning → Result (Unit {0}) Refusal
close_answer m = told (close_questions m) tt

unfoldable pub close_after : Meaning → Meaning
close_after m = unless (close_questions m) (with_dialogue m m.number closed) m

-- what is heard of a string: how many octets it has, if it is not garbled
abbrev pub text_in : String → Result ℕ Garbled
text_in garbled = Err (record {})
text_in (octets xs) = Ok (length xs)

-- and of the string under way
abbrev pub text_of : Option String → Option (Result ℕ Garbled)
text_of None = None
text_of (Some x) = Some (text_in x)

-- what a take answers of it
abbrev pub garbled_stop : Stop
garbled_stop = Faulty (fault_of 40 0 Bearer)

abbrev pub heard_text : Option (Result ℕ Garbled) → Result ℕ Stop
heard_text None = Ok 0
heard_text (Some (Err g)) = Err garbled_stop
heard_text (Some (Ok n)) = Ok n

abbrev pub code_octets : Octets 4 → List ℕ
code_octets c = octets_of c
