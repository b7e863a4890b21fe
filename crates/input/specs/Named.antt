-- Words that stand for something.
use Rattle.std.specs.Prelude.{ℕ, cond, List, [], ◌∷◌, Some, None, Option}
use Rattle.std.specs.Str.{bytes_eq as same_text}

pub record Name (A : Type 0) : Type 0 where
  pub word : List ℕ
  pub means : A

abbrev pub name : {A : Type 0} → List ℕ → A → Name A
name w a = record { word = w; means = a }

-- what a word stands for in a table
abbrev pub named : {A : Type 0} → List (Name A) → List ℕ → Option A
named [] w = None
named (n ∷ ns) w = cond (same_text w n.word) (Some n.means) (named ns w)
