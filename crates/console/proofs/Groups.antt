-- The groups of a line behind the first that is half an octet.
use Rattle.std.proofs.Common.{◌≡◌, ℕ, suc, ◌+◌, ◌%◌, Bool, true, false, cond, eqb, List, [], ◌∷◌, length, drop, refl, arith}
use Rattle.std.specs.List.{prefix_len}
use Rattle.console.specs.Line.{all_empty, unbroken}

-- a group of whole octets
abbrev pub even : List ℕ → Bool
even w = eqb (length w % 2) 0

more : (b : Bool) (n : ℕ) (w : List ℕ) (ws : List (List ℕ)) (u : Bool) → all_empty (drop 1 (drop n ws)) ≡ u → all_empty (drop 1 (drop (cond b (1 + n) 0) (w ∷ ws))) ≡ cond b u (all_empty ws)
more true n w ws u h = let s : 1 + n ≡ suc n = omega arith in rw s h
more false n w ws u h = refl

pub behind_half : (ws : List (List ℕ)) → all_empty (drop 1 (drop (prefix_len even ws) ws)) ≡ unbroken ws
behind_half [] = refl
behind_half (w ∷ ws) = more (even w) (prefix_len even ws) w ws (unbroken ws) (behind_half ws)
