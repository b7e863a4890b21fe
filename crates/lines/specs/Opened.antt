-- What the reading of a mobile's opening string tells.
use Rattle.std.specs.Prelude.{ℕ, List, [], Ok, Err, Result}
use Rattle.bearer.specs.declared.heard.Garbled.{Garbled}
use Rattle.bearer.specs.Meaning.{code_octets}
use Rattle.lines.specs.declared.hear.Opened.{Opened}

-- a garbled opening has no code
abbrev pub code_told : Result Opened Garbled → List ℕ
code_told (Ok o) = code_octets o.code
code_told (Err g) = []

abbrev pub count_told : Result Opened Garbled → Result ℕ Garbled
count_told (Ok o) = Ok o.count
count_told (Err g) = Err g
