-- The line of a gateway: begin or continue, the dialogue's number, invoke or result, and the USSD string in capital hexadecimal.
use Rattle.std.specs.Prelude.{ℕ, ◌+◌, ◌-◌, Bool, true, false, cond, ◌&&◌, List, ◌++◌, length, take, drop, Some, None, codes, decimal, Option, nat_le}
use Rattle.std.specs.Str.{bytes_eq}
use Rattle.bearer.specs.declared.side.Side.{Side}
use Rattle.bearer.specs.declared.side.Side.TheVariants.{Mobile, Network}
use Rattle.lines.specs.declared.place.Place.{Place}
use Rattle.hex_text.specs.Hex.{hex_of, unhex}

-- an opening begins a dialogue, any other string continues it
abbrev pub message_type : Bool → List ℕ
message_type true = codes "begin"
message_type false = codes "continue"

-- a mobile's later strings are results, all others invoke
abbrev pub component_type : Bool → Side → List ℕ
component_type true s = codes "invoke"
component_type false Mobile = codes "result"
component_type false Network = codes "invoke"

abbrev pub head : Place → List ℕ
head p =
    codes "<siggw><msg type=\"" ++ (message_type p.opening ++ (codes "\"><dialog id=\"" ++ (decimal p.number ++ (codes "\"/><component type=\"" ++ (component_type p.opening p.from ++ codes "\"><param name=\"ussd_string\" v=\"")))))

abbrev pub tail : List ℕ
tail = codes "\"/></component></msg></siggw>"

abbrev pub written : Place → List ℕ → List ℕ
written p xs = head p ++ (hex_of xs ++ tail)

-- a line begins with h and ends with t
abbrev pub framed : (h t ys : List ℕ) → Bool
framed h t ys = nat_le (length h + length t) (length ys) && (bytes_eq (take (length h) ys) h && bytes_eq (drop (length ys - length t) ys) t)

-- what stands between
abbrev pub middle : (h t ys : List ℕ) → List ℕ
middle h t ys = take (length ys - length t - length h) (drop (length h) ys)

-- a USSD string has up to 160 octets
abbrev pub shortly : Option (List ℕ) → Option (List ℕ)
shortly None = None
shortly (Some xs) = cond (nat_le (length xs) 160) (Some xs) None

-- the string in a line between h and t
abbrev pub between : (h t ys : List ℕ) → Option (List ℕ)
between h t ys = cond (framed h t ys) (shortly (unhex (middle h t ys))) None

-- any other line is garbled
abbrev pub read_as : Place → List ℕ → Option (List ℕ)
read_as p ys = between (head p) tail ys
