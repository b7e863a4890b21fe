-- What a line of input is.
use Rattle.std.specs.Prelude.{ℕ, ◌-◌, ◌/◌, ◌%◌, Bool, true, cond, not, ◌&&◌, ◌||◌, List, [], ◌∷◌, length, take, filter, Ok, Err, vec_items, Result, ◌==◌, nat_le, slice_index}
use Rattle.std.specs.List.{list_all, slice_split}
use Rattle.terms.specs.Question.{Question, told}
use Rattle.console.specs.declared.line.Reason.{Reason}
use Rattle.console.specs.declared.line.Reason.TheVariants.{NotHex, OddCount, TooLong}
use Rattle.console.specs.declared.line.Line.{Line}
use Rattle.console.specs.declared.line.Line.TheVariants as line
use Rattle.rules.specs.HeaderRules.{must}
use Rattle.console.specs.Hex.{is_digit, paired}

abbrev pub space : ℕ
space = 0x20

abbrev pub is_space : ℕ → Bool
is_space c = c == space

-- the line without its spaces
abbrev pub unspaced : List ℕ → List ℕ
unspaced cs = filter (λ c. not (is_space c)) cs

-- the groups that stand between spaces; two spaces side by side have an empty one between them
abbrev pub groups : List ℕ → List (List ℕ)
groups cs = slice_split is_space cs

abbrev pub all_empty : List (List ℕ) → Bool
all_empty ws = list_all (λ w. length w == 0) ws

-- no space stands inside an octet: each group has an even count of digits, but for the last one on the line
abbrev pub unbroken : List (List ℕ) → Bool
unbroken [] = true
unbroken (w ∷ ws) = cond (length w % 2 == 0) (unbroken ws) (all_empty ws)

-- hex digits, with spaces before, between and behind octets
abbrev pub is_hex : List ℕ → Bool
is_hex cs = list_all is_digit (unspaced cs) && unbroken (groups cs)

-- the longest string is of 160 octets
abbrev pub questions : List ℕ → List (Question Reason)
questions cs = must (is_hex cs) NotHex ∷ must (length (unspaced cs) % 2 == 0) OddCount ∷ must (nat_le (length (unspaced cs) / 2) 160) TooLong ∷ []

-- what a line means: nothing, a string, or something that is none
pub data Meaning : Type 0 where
  nothing : Meaning
  string : List ℕ → Meaning
  bad : Reason → Meaning

abbrev pub meaning_of : Result (List ℕ) Reason → Meaning
meaning_of (Ok xs) = string xs
meaning_of (Err reason) = bad reason

abbrev pub is_comment : List ℕ → Bool
is_comment cs = nat_le 1 (length cs) && slice_index cs 0 == 0x23

-- a line that begins with `#`, or has nothing but spaces
abbrev pub passed_over : List ℕ → Bool
passed_over cs = is_comment cs || length (unspaced cs) == 0

-- `-` alone is the empty string
abbrev pub is_dash : List ℕ → Bool
is_dash cs = length cs == 1 && slice_index cs 0 == 0x2D

abbrev pub meaning : List ℕ → Meaning
meaning cs = cond (passed_over cs) nothing (cond (is_dash (unspaced cs)) (string []) (meaning_of (told (questions cs) (paired (unspaced cs)))))

-- a line of the program, as plain data
abbrev pub seen_line : Line → Meaning
seen_line line.PassedOver = nothing
seen_line (line.String v) = string (vec_items v)
seen_line (line.Refused reason) = bad reason

abbrev pub without_last : ℕ → List ℕ → List ℕ
without_last end cs = cond (nat_le 1 (length cs) && slice_index cs (length cs - 1) == end) (take (length cs - 1) cs) cs

-- a line ends in LF, or in CR and LF; the last one may end in CR alone or in neither
abbrev pub without_end : List ℕ → List ℕ
without_end cs = without_last 0x0D (without_last 0x0A cs)
