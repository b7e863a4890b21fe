use Rattle.std.specs.Prelude.{◌≡◌, ℕ, ◌≤◌, true, List, [], ◌∷◌, length, Some, Option, nat_le}
use Rattle.terms.specs.declared.refusal.Refusal.{Refusal}
use Rattle.terms.specs.Question.{Question}
use Rattle.terms.specs.Refusal.{must}
use Rattle.bearer.specs.Meaning.{low}
use Rattle.lines.specs.declared.place.Place.{Place}

-- what a form is: a string of up to 160 octets that is written fits the line and reads back, and no other line reads as one
pub record LawfulLine (room : ℕ) (written : Place → List ℕ → List ℕ) (read_as : Place → List ℕ → Option (List ℕ)) : Type 0 where
  pub back : (p : Place) (xs : List ℕ) → length xs ≤ 160 → low 255 xs ≡ true → read_as p (written p xs) ≡ Some xs
  pub only : (p : Place) (ys xs : List ℕ) → low 255 ys ≡ true → read_as p ys ≡ Some xs → ys ≡ written p xs
  pub short : (p : Place) (ys xs : List ℕ) → read_as p ys ≡ Some xs → length xs ≤ 160

-- is there room for octets?
abbrev pub room_for : ℕ → List ℕ → List (Question Refusal)
room_for room xs = must (nat_le (length xs) room) 29 ∷ []
