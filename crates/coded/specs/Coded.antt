-- What a bearer with a coding piled on it means, by the meaning of the bearer below.
use Rattle.std.specs.Prelude.{ℕ, List, Some, None, Option}
use Rattle.bearer.specs.declared.side.Highest.TheVariants.{Eight}
use Rattle.bearer.specs.Meaning.{Meaning, Dialogue, closed, open_with, Stand, turn, under_way, String, garbled, octets}
use Rattle.bearer.specs.declared.shown.Bearer as bearer
use Rattle.coding.specs.Coding.{most}
use Rattle.coding.specs.declared.Coding as coding
use Rattle.coded.specs.declared.pile.Coded.{Coded}

abbrev pub string_from : Option (List ℕ) → String
string_from None = garbled
string_from (Some xs) = octets xs

-- garbled if below is garbled or does not decode
abbrev pub string_above : (List ℕ → Option (List ℕ)) → String → String
string_above decoded garbled = garbled
string_above decoded (octets ys) = string_from (decoded ys)

abbrev pub stand_above : (List ℕ → Option (List ℕ)) → Stand → Stand
stand_above decoded (turn s) = turn s
stand_above decoded (under_way s x) = under_way s (string_above decoded x)

abbrev pub dialogue_above : (List ℕ → Option (List ℕ)) → Dialogue → Dialogue
dialogue_above decoded closed = closed
dialogue_above decoded (open_with c s) = open_with c (stand_above decoded s)

-- every octet is carried; the longest string is the most octets whose encoding fits below; all else is as below
abbrev pub above : (List ℕ → Option (List ℕ)) → (ℕ → ℕ) → Meaning → Meaning
above decoded size m = record { longest = most size m.longest; highest = Eight; number = m.number; dialogue = dialogue_above decoded m.dialogue }

-- what a pile means, and what a string from below stands for in it, by all that its bearer and its coding tell of themselves
abbrev pub meaning_of : {B C : Type 0} → bearer.Ghosts B → coding.Ghosts C → Coded B C → Meaning
meaning_of b c p = above (c.decoded p.coding) (c.size p.coding) (b.meaning p.below)

abbrev pub stands_for : {B C : Type 0} → coding.Ghosts C → Coded B C → List ℕ → String
stands_for c p ys = string_from (c.decoded p.coding ys)
