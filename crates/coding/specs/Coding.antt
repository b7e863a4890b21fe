-- What a coding is: octets turned into low ones, and back.
use Rattle.std.specs.Prelude.{◌≡◌, ℕ, zero, suc, ◌+◌, ◌<◌, ◌≤◌, cond, List, length, Some, Option, nat_le}
use Rattle.terms.specs.AtMost.{AtMost, Octets}

-- the law of a coding with highest octet `top`; `size` tells the length of an encoding by the count of octets alone
pub record Lawful (top : ℕ) (encoded : List ℕ → List ℕ) (decoded : List ℕ → Option (List ℕ)) (size : ℕ → ℕ) : Type 0 where
  pub small : top ≤ 127
  -- decoding an encoding gives the octets back, and nothing else decodes
  pub back : (xs : List ℕ) → Octets xs → decoded (encoded xs) ≡ Some xs
  pub only : (ys xs : List ℕ) → decoded ys ≡ Some xs → Octets xs × (ys ≡ encoded xs)
  pub sized : (xs : List ℕ) → length (encoded xs) ≡ size (length xs)
  pub none : size 0 ≡ 0
  pub grows : (n : ℕ) → size n < size (n + 1)
  -- no encoding passes the highest octet
  pub below : (xs : List ℕ) → Octets xs → AtMost top (encoded xs)

-- the most octets, of up to n, whose encoding fits the room
abbrev pub most_up_to : (ℕ → ℕ) → ℕ → ℕ → ℕ
most_up_to size room zero = 0
most_up_to size room (suc n) = cond (nat_le (size (suc n)) room) (suc n) (most_up_to size room n)

-- the most octets whose encoding fits the room: since encodings grow with each octet, no more octets than the room has
unfoldable pub most : (ℕ → ℕ) → ℕ → ℕ
most size room = most_up_to size room room
