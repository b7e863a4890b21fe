use Rattle.std.specs.Prelude.{ℕ, ◌+◌, ◌-◌, Bool, cond, ◌&&◌, List, [], ◌∷◌, ◌++◌, length, take, drop, Some, None, Option, ◌==◌, nat_le, slice_index}
use Rattle.std.specs.List.{prefix_len}
use Rattle.std.specs.Option.{option_map}
use Rattle.bearer.specs.Meaning.{digit}

-- how a mobile's opening string stands
abbrev pub frame : List ℕ → List ℕ → List ℕ
frame code xs = 0x2A ∷ 0x23 ∷ (code ++ (0x2A ∷ (xs ++ (0x23 ∷ []))))

-- how many digits a list begins with
abbrev pub run : List ℕ → ℕ
run xs = prefix_len (λ x. digit x) xs

abbrev pub middle : List ℕ → List ℕ
middle zs = take (length zs - 1 - 2) (drop 2 zs)

abbrev pub bounded : List ℕ → Bool
bounded zs = nat_le 3 (length zs) && (slice_index zs 0 == 0x2A && (slice_index zs 1 == 0x23 && slice_index zs (length zs - 1) == 0x23))

abbrev pub coded : ℕ → List ℕ → Bool
coded k rest = nat_le 2 k && (nat_le k 4 && slice_index rest k == 0x2A)

abbrev pub code_digits : List ℕ → Option ℕ
code_digits zs = cond (bounded zs && coded (run (middle zs)) (middle zs)) (Some (run (middle zs))) None

-- the code and the octets that stand in a string of the opening form
abbrev pub parts : List ℕ → Option (List ℕ × List ℕ)
parts zs = option_map (λ k. (take k (middle zs), drop (k + 1) (middle zs))) (code_digits zs)
