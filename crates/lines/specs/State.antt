-- What a bearer that holds a line means: it is defined by reading the line.
use Rattle.std.specs.Prelude.{ℕ, ◌+◌, Bool, true, false, cond, ◌&&◌, List, [], ◌∷◌, length, Some, None, Option, nat_le, nat_lt}
use Rattle.terms.specs.declared.refusal.Refusal.{Refusal}
use Rattle.terms.specs.Question.{Question, unless}
use Rattle.terms.specs.Refusal.{must}
use Rattle.bearer.specs.declared.side.Side.{Side}
use Rattle.bearer.specs.declared.side.Side.TheVariants.{Mobile, Network}
use Rattle.bearer.specs.declared.side.Highest.{Highest}
use Rattle.bearer.specs.declared.side.Standing.{Standing}
use Rattle.bearer.specs.Side.{other, highest_octet}
use Rattle.bearer.specs.Meaning.{Meaning, Dialogue, closed, open_with, turn, under_way, String, garbled, octets, low, is_open, stand_of, turn_is, code_of, code_octets, last_number, with_dialogue, open_questions, give_questions}
use Rattle.lines.specs.declared.line.Line.{Ghosts}
use Rattle.lines.specs.declared.place.Place.{Place}
use Rattle.lines.specs.declared.state.Phase.{Phase}
use Rattle.lines.specs.declared.state.Phase.TheVariants.{Closed, Turn, Opening, UnderWay}
use Rattle.lines.specs.declared.state.Carrier.{Carrier}
use Rattle.lines.specs.Frame.{frame, parts}

-- octets beyond a figure are garbled, and so is a line that has not the form
abbrev pub heard_of : ℕ → Option (List ℕ) → String
heard_of h None = garbled
heard_of h (Some xs) = cond (nat_le (length xs) 152 && low h xs) (octets xs) garbled

-- a garbled opening has no code
abbrev pub opens_with : List ℕ → String → Dialogue
opens_with code garbled = open_with [] (under_way Network garbled)
opens_with code (octets xs) = open_with code (under_way Network (octets xs))

abbrev pub opens_by : ℕ → Option (List ℕ × List ℕ) → Dialogue
opens_by h None = open_with [] (under_way Network garbled)
opens_by h (Some p) = opens_with p.0 (heard_of h (Some p.1))

-- a mobile's opening string stands as `*#`, the code, `*`, the octets, `#`
abbrev pub opens : ℕ → Option (List ℕ) → Dialogue
opens h None = open_with [] (under_way Network garbled)
opens h (Some zs) = opens_by h (parts zs)

-- the dialogue in a phase, with what was read from the line; any string but a mobile's opening stands bare
abbrev pub dialogue_in : Phase → List ℕ → ℕ → Option (List ℕ) → Dialogue
dialogue_in Closed code h o = closed
dialogue_in (Turn s) code h o = open_with code (turn s)
dialogue_in (Opening Network) code h o = opens h o
dialogue_in (Opening Mobile) code h o = open_with [] (under_way Mobile (heard_of h o))
dialogue_in (UnderWay s) code h o = open_with code (under_way s (heard_of h o))

abbrev pub place_in : Phase → ℕ → Place
place_in Closed n = record { opening = false; from = Mobile; number = n }
place_in (Turn s) n = record { opening = false; from = Mobile; number = n }
place_in (Opening s) n = record { opening = true; from = other s; number = n }
place_in (UnderWay s) n = record { opening = false; from = other s; number = n }

-- a carrier in another phase, of a dialogue's number
abbrev pub in_phase : {L : Type 0} → Carrier L → Phase → ℕ → Carrier L
in_phase b p n = record { line = b.line; code = b.code; phase = p; number = n; highest = b.highest }

-- the string that stands on a carrier's line
abbrev pub on_line : {L : Type 0} → Ghosts L → Carrier L → Option (List ℕ)
on_line l b = l.read_as (place_in b.phase b.number) (l.held b.line)

-- a form by its reading and by what stands on a line
abbrev pub means_by : {L : Type 0} → (Place → List ℕ → Option (List ℕ)) → (L → List ℕ) → Carrier L → Meaning
means_by read_as held b =
    record {
      longest = 152;
      highest = b.highest;
      number = b.number;
      dialogue = dialogue_in b.phase (code_octets b.code) (highest_octet b.highest) (read_as (place_in b.phase b.number) (held b.line));
    }

-- and by all that a line's form tells of itself
abbrev pub meaning_of : {L : Type 0} → Ghosts L → Carrier L → Meaning
meaning_of l b = means_by l.read_as l.held b

-- the string that an opening or a later one stands as
abbrev pub stands_as : Side → List ℕ → List ℕ → List ℕ
stands_as Mobile code xs = frame code xs
stands_as Network code xs = xs

-- what stands on the line after open and give: the new line, or the old one after a refusal
abbrev pub open_raw : (Place → List ℕ → List ℕ) → Side → List ℕ → List ℕ → Meaning → List ℕ → List ℕ
open_raw written side code xs m old = unless (open_questions side code xs m) (written (place_in (Opening (other side)) (m.number + 1)) (stands_as side code xs)) old

abbrev pub give_raw : (Place → List ℕ → List ℕ) → Side → List ℕ → Meaning → List ℕ → List ℕ
give_raw written side xs m old = unless (give_questions side xs m) (written (place_in (UnderWay (other side)) m.number) xs) old

-- load: does the line hold it? and then, a number left if closed, your turn if open
abbrev pub load_asks : Bool → Bool → Standing → ℕ → Side → List (Question Refusal)
load_asks fits o standing number side = must fits 29 ∷ cond o (must (turn_is side standing) 27) (must (nat_lt number last_number) 25) ∷ []

abbrev pub load_questions : ℕ → Side → List ℕ → Meaning → List (Question Refusal)
load_questions room side raw m = load_asks (nat_le (length raw) room) (is_open m) (stand_of m) m.number side

abbrev pub loaded_phase : Bool → Side → Phase
loaded_phase true side = UnderWay (other side)
loaded_phase false side = Opening (other side)

abbrev pub loaded_number : Bool → ℕ → ℕ
loaded_number true n = n
loaded_number false n = n + 1

-- the raw string is under way as the side's open or give
abbrev pub loaded : (Place → List ℕ → Option (List ℕ)) → Side → List ℕ → Meaning → Meaning
loaded read_as side raw m =
    let n = loaded_number (is_open m) m.number in
    let p = loaded_phase (is_open m) side in
    with_dialogue m n (dialogue_in p (code_of m) (highest_octet m.highest) (read_as (place_in p n) raw))

abbrev pub load_after : ℕ → (Place → List ℕ → Option (List ℕ)) → Side → List ℕ → Meaning → Meaning
load_after room read_as side raw m = unless (load_questions room side raw m) (loaded read_as side raw m) m

abbrev pub load_raw : ℕ → Side → List ℕ → Meaning → List ℕ → List ℕ
load_raw room side raw m old = unless (load_questions room side raw m) raw old

-- new, a bearer is closed
abbrev pub closed_at : ℕ → Highest → Meaning
closed_at n h = record { longest = 152; highest = h; number = n; dialogue = closed }
