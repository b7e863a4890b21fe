-- One line of a log: a side and the raw line, a side that closes, or the loss of the radio.
use Rattle.std.specs.Prelude.{ℕ, cond, ◌&&◌, List, length, take, drop, Some, None, codes, Option, nat_le}
use Rattle.std.specs.Str.{bytes_eq}
use Rattle.bearer.specs.declared.side.Side.{Side}
use Rattle.bearer.specs.declared.side.Side.TheVariants.{Mobile, Network}
use Rattle.dialogue_log.specs.declared.entry.Entry.{Entry}
use Rattle.dialogue_log.specs.declared.entry.Entry.TheVariants as entry

pub data Seen : Type 0 where
  load : Side → List ℕ → Seen
  close : Side → Seen
  lose : Seen

abbrev pub seen_entry : Entry → Seen
seen_entry (entry.Load s t) = load s t.now
seen_entry (entry.Close s) = close s
seen_entry entry.Lose = lose

abbrev pub seen_in : Option Entry → Option Seen
seen_in None = None
seen_in (Some e) = Some (seen_entry e)

-- what follows a word at the front of a line
abbrev pub text_behind : (word line : List ℕ) → Option (List ℕ)
text_behind word line = cond (nat_le (length word) (length line) && bytes_eq (take (length word) line) word) (Some (drop (length word) line)) None

abbrev pub of_side : Side → List ℕ → Seen
of_side side text = cond (bytes_eq text (codes "close")) (close side) (load side text)

abbrev pub sided : Side → Option (List ℕ) → Option Seen → Option Seen
sided side None other = other
sided side (Some text) other = Some (of_side side text)

abbrev pub entry_in : List ℕ → Option Seen
entry_in line =
    cond (bytes_eq line (codes "lose")) (Some lose) (sided Mobile (text_behind (codes "mobile ") line) (sided Network (text_behind (codes "network ") line) None))
