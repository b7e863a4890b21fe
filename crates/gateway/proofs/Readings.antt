-- What reading and writing a line comes to, whoever does it.
use Rattle.std.specs.Prelude.{◌≡◌, ℕ, ◌+◌, ◌-◌, ◌*◌, ◌<◌, ◌≤◌, Bool, true, false, cond, ◌&&◌, leb, List, ◌++◌, length, take, drop, Some, None, Ok, Err, Option, Result, nat_le}
use Rattle.std.proofs.Math.Path.{refl, ap}
use Rattle.std.proofs.Common.{sym, subst, ◌∙◌, append_assoc, arith, le-leb, leb-true}
use Rattle.std.proofs.Math.Seq.{take-append_seam}
use Rattle.std.proofs.lemmas.List.{take_rest}
use Rattle.std.proofs.lemmas.Bool.{and_parts, lt-leb}
use Rattle.std.specs.Str.{bytes_eq}
use Rattle.std.specs.Option.{option_map}
use Rattle.terms.specs.declared.refusal.Refusal.TheVariants as refusal
use Rattle.terms.specs.declared.stop.Stop.{Stop}
use Rattle.terms.specs.Question.{unless_of}
use Rattle.terms.specs.Buffer.{left_in}
use Rattle.terms.specs.Decoded.{count_in, decoded_by, decoded_in}
use Rattle.hex_text.specs.Hex.{hex_of, unhex}
use Rattle.hex_text.proofs.Hexes.{hex_length}
use Rattle.gateway.specs.Form.{framed, middle, shortly, between}

-- octets over the front of a place, those beyond kept
abbrev pub over : Option (List ℕ) → List ℕ → List ℕ
over None out = out
over (Some xs) out = xs ++ drop (length xs) out

-- too short a line, or another front or back
pub unframed_short : (h t ys : List ℕ) → length ys < length h + length t → false ≡ framed h t ys
unframed_short h t ys l = sym (ap (λ b. b && (bytes_eq (take (length h) ys) h && bytes_eq (drop (length ys - length t) ys) t)) (lt-leb (length h + length t) (length ys) l))

pub framed_by : (h t ys : List ℕ) (r : Bool) → length h + length t ≤ length ys → r ≡ (bytes_eq (take (length h) ys) h && bytes_eq (drop (length ys - length t) ys) t) → r ≡ framed h t ys
framed_by h t ys r l e = e ∙ sym (ap (λ b. b && (bytes_eq (take (length h) ys) h && bytes_eq (drop (length ys - length t) ys) t)) (le-leb (length h + length t) (length ys) l))

pub framed_long : (h t ys : List ℕ) → framed h t ys ≡ true → length h + length t ≤ length ys
framed_long h t ys e = leb-true (length h + length t) (length ys) (and_parts (nat_le (length h + length t) (length ys)) _ e).0

pub unframed_none : (h t ys out : List ℕ) → framed h t ys ≡ false → (None ≡ option_map length (between h t ys)) × (out ≡ over (between h t ys) out)
unframed_none h t ys out e =
    let n : between h t ys ≡ None = ap (λ b. cond b (shortly (unhex (middle h t ys))) None) e in
    (sym (ap (option_map length) n), sym (ap (λ o. over o out) n))

-- what a decode answers, by what it decoded
abbrev Read : Option (List ℕ) → List ℕ → List ℕ → Result ℕ Stop → Type 0
Read o out new (Ok n) = (Some n ≡ option_map length (shortly o)) × (new ≡ over (shortly o) out)
Read o out new (Err s) = (None ≡ option_map length (shortly o)) × (new ≡ over (shortly o) out)

read_room : (xs out new : List ℕ) (b : Bool) (r : Result ℕ Stop) → nat_le (length xs) 160 ≡ b → r ≡ count_in (cond b None (Some refusal.Buffer)) (length xs) → new ≡ unless_of (cond b None (Some refusal.Buffer)) (xs ++ drop (length xs) out) out → Read (Some xs) out new r
read_room xs out new true r l e f =
    let P : Result ℕ Stop → Type 0 = Read (Some xs) out new in
    let s : shortly (Some xs) ≡ Some xs = ap (λ v. cond v (Some xs) None) l in
    subst P (sym e) (sym (ap (option_map length) s), f ∙ sym (ap (λ o. over o out) s))
read_room xs out new false r l e f =
    let P : Result ℕ Stop → Type 0 = Read (Some xs) out new in
    let s : shortly (Some xs) ≡ None = ap (λ v. cond v (Some xs) None) l in
    subst P (sym e) (sym (ap (option_map length) s), f ∙ sym (ap (λ o. over o out) s))

read_by : (o : Option (List ℕ)) (out new : List ℕ) (r : Result ℕ Stop) → length out ≡ 160 → r ≡ decoded_by o out → new ≡ decoded_in o out → Read o out new r
read_by None out new r l e f = let P : Result ℕ Stop → Type 0 = Read None out new in subst P (sym e) (refl, f)
read_by (Some xs) out new r l e f =
    read_room xs out new (nat_le (length xs) (length out)) r (ap (λ k. leb (length xs) k) (sym l)) e f

pub decoded_some : (h t ys out new : List ℕ) (m : List ℕ) (n : ℕ) → length out ≡ 160 → framed h t ys ≡ true → m ≡ middle h t ys → Ok n ≡ decoded_by (unhex m) out → new ≡ decoded_in (unhex m) out
    → (Some n ≡ option_map length (between h t ys)) × (new ≡ over (between h t ys) out)
decoded_some h t ys out new m n l b w e f =
    let s : between h t ys ≡ shortly (unhex m) = ap (λ v. cond v (shortly (unhex (middle h t ys))) None) b ∙ ap (λ v. shortly (unhex v)) (sym w) in
    let p = read_by (unhex m) out new (Ok n) l e f in
    (p.0 ∙ sym (ap (option_map length) s), p.1 ∙ sym (ap (λ o. over o out) s))

pub decoded_none : (h t ys out new : List ℕ) (m : List ℕ) (q : Stop) → length out ≡ 160 → framed h t ys ≡ true → m ≡ middle h t ys → Err q ≡ decoded_by (unhex m) out → new ≡ decoded_in (unhex m) out
    → (None ≡ option_map length (between h t ys)) × (new ≡ over (between h t ys) out)
decoded_none h t ys out new m q l b w e f =
    let s : between h t ys ≡ shortly (unhex m) = ap (λ v. cond v (shortly (unhex (middle h t ys))) None) b ∙ ap (λ v. shortly (unhex v)) (sym w) in
    let p = read_by (unhex m) out new (Err q) l e f in
    (p.0 ∙ sym (ap (option_map length) s), p.1 ∙ sym (ap (λ o. over o out) s))

pub framed_yes : (h t ys : List ℕ) (r : Bool) → length h + length t ≤ length ys → true ≡ bytes_eq (take (length h - 0) ys) h
    → r ≡ bytes_eq (take (length ys - (length ys - length t)) (drop (length ys - length t) ys)) t → r ≡ framed h t ys
framed_yes h t ys r l a b =
    let z : length h - 0 ≡ length h = omega arith in
    let back = bytes_eq (drop (length ys - length t) ys) t in
    framed_by h t ys r l (b ∙ ap (λ v. bytes_eq v t) (take_rest ys (length ys - length t)) ∙ ap (λ v. v && back) a ∙ ap (λ k. bytes_eq (take k ys) h && back) z)

-- the front, the characters and the back, one behind the other
pub line_is : (h t xs old text r1 r2 r3 k : List ℕ) → length xs ≤ 160 → length old ≡ 320 → text ≡ left_in (hex_of xs) old → r1 ≡ h → r2 ≡ r1 ++ take (2 * length xs - 0) text → k ≡ t → r3 ≡ r2 ++ k → r3 ≡ h ++ (hex_of xs ++ t)
line_is h t xs old text r1 r2 r3 k l o e a b w d =
    let n = hex_length xs in
    let z : 2 * length xs - 0 ≡ length (hex_of xs) = omega (arith, n) in
    let f : leb (length (hex_of xs)) (length old) ≡ true = le-leb (length (hex_of xs)) (length old) (omega (arith, n, l, o)) in
    let c : text ≡ hex_of xs ++ drop (length (hex_of xs)) old = e ∙ ap (λ v. unless_of (cond v None (Some refusal.Buffer)) (hex_of xs ++ drop (length (hex_of xs)) old) old) f in
    let g : take (2 * length xs - 0) text ≡ hex_of xs = ap (λ v. take v text) z ∙ ap (take (length (hex_of xs))) c ∙ take-append_seam (hex_of xs) (drop (length (hex_of xs)) old) in
    d ∙ ap (λ v. v ++ k) (b ∙ ap (λ v. v ++ take (2 * length xs - 0) text) a ∙ ap (λ v. h ++ v) g) ∙ ap (λ v. (h ++ hex_of xs) ++ v) w ∙ append_assoc h (hex_of xs) t
