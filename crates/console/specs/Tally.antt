-- How many lines, and strings of either kind, were read.
use Rattle.std.specs.Prelude.{ℕ, ◌+◌, ◌-◌, ◌^◌, min, Bool, cond, List, is_ok}
use Rattle.wire.specs.Pdu.{reading}
use Rattle.console.specs.declared.strings.Tally.{Tally}
use Rattle.console.specs.Line.{Meaning, nothing, string, bad}

abbrev pub none : Tally
none = record { lines = 0; sound = 0; broken = 0 }

-- one more; the last number that can be told stays
abbrev pub more : ℕ → ℕ
more n = min (n + 1) (2 ^ 64 - 1)

abbrev pub counted_sound : Bool → Tally → Tally
counted_sound sound t =
    cond sound (record { lines = t.lines; sound = more t.sound; broken = t.broken }) (record { lines = t.lines; sound = t.sound; broken = more t.broken })

-- a string is sound where it reads as a PDU
abbrev pub counted_string : List ℕ → Tally → Tally
counted_string xs t = counted_sound (is_ok (reading xs)) t

-- a line that holds no string is a line all the same
abbrev pub counted_line : Meaning → Tally → Tally
counted_line nothing t = record { lines = more t.lines; sound = t.sound; broken = t.broken }
counted_line (string xs) t = counted_string xs (record { lines = more t.lines; sound = t.sound; broken = t.broken })
counted_line (bad reason) t = record { lines = more t.lines; sound = t.sound; broken = t.broken }
