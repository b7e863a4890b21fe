-- What hexadecimal text comes to in a buffer.
use Rattle.std.proofs.Common.{◌≡◌, ℕ, ◌≤◌, Bool, true, false, cond, leb, List, ◌++◌, length, take, drop, Some, None, Ok, Err, Option, Result, sym, refl, ap, ◌∙◌, subst, leb-true}
use lib.Seq.{take-append_seam}
use Rattle.std.specs.Result.{result_ok}
use Rattle.terms.specs.declared.refusal.Refusal.TheVariants as refusal
use Rattle.terms.specs.declared.stop.Stop.{Stop}
use Rattle.terms.specs.Question.{unless_of}
use Rattle.terms.specs.Decoded.{count_in, decoded_by, decoded_in}
use Rattle.hex_text.specs.Hex.{unhex}
use Rattle.gateway.specs.Form.{framed, middle, shortly, between}

-- what stands in a line, as a string
between_by : (b : Bool) (m n : List ℕ) → Some m ≡ cond b (Some n) None → cond b (shortly (unhex n)) None ≡ shortly (unhex m)
between_by true m n e = let z : m ≡ n = cc in ap (λ v. shortly (unhex v)) (sym z)
between_by false m n e = cc

pub between_is : (h t ys m : List ℕ) → Some m ≡ cond (framed h t ys) (Some (middle h t ys)) None → between h t ys ≡ shortly (unhex m)
between_is h t ys m e = between_by (framed h t ys) m (middle h t ys) e

-- a decode into 160 octets
abbrev pub Decodes : Option (List ℕ) → List ℕ → Result ℕ Stop → Type 0
Decodes o new (Ok n) = (shortly o ≡ Some (take n new)) × (n ≤ 160) × (n ≡ length (take n new))
Decodes o new (Err s) = shortly o ≡ None

decodes_room : (xs out new : List ℕ) (b : Bool) (r : Result ℕ Stop) → leb (length xs) 160 ≡ b → r ≡ count_in (cond b None (Some refusal.Buffer)) (length xs) → new ≡ unless_of (cond b None (Some refusal.Buffer)) (xs ++ drop (length xs) out) out → Decodes (Some xs) new r
decodes_room xs out new true r l e f =
    let P : Result ℕ Stop → Type 0 = Decodes (Some xs) new in
    let t : take (length xs) new ≡ xs = ap (take (length xs)) f ∙ take-append_seam xs (drop (length xs) out) in
    subst P (sym e) (ap (λ v. cond v (Some xs) None) l ∙ ap Some (sym t), leb-true (length xs) 160 l, ap length (sym t))
decodes_room xs out new false r l e f =
    let P : Result ℕ Stop → Type 0 = Decodes (Some xs) new in
    subst P (sym e) (ap (λ v. cond v (Some xs) None) l)

decodes_by : (o : Option (List ℕ)) (out new : List ℕ) (r : Result ℕ Stop) → length out ≡ 160 → r ≡ decoded_by o out → new ≡ decoded_in o out → Decodes o new r
decodes_by None out new r l e f = let P : Result ℕ Stop → Type 0 = Decodes None new in subst P (sym e) refl
decodes_by (Some xs) out new r l e f = decodes_room xs out new (leb (length xs) (length out)) r (ap (λ k. leb (length xs) k) (sym l)) e f

none_of : (o : Option (List ℕ)) (new : List ℕ) (r : Result ℕ Stop) → None ≡ result_ok r → Decodes o new r → None ≡ shortly o
none_of o new (Ok n) e d = cc
none_of o new (Err s) e d = sym d

some_of : (o : Option (List ℕ)) (new : List ℕ) (r : Result ℕ Stop) (n : ℕ) → Some n ≡ result_ok r → Decodes o new r → Decodes o new (Ok n)
some_of o new (Ok k) n e d = let P : ℕ → Type 0 = λ v. Decodes o new (Ok v) in let z : k ≡ n = cc in subst P z d
some_of o new (Err s) n e d = cc

module _ (text out new : List ℕ) (r : Result ℕ Stop) (l : length out ≡ 160) (a : r ≡ decoded_by (unhex text) out) (b : new ≡ decoded_in (unhex text) out) where
  pub decodes_none : None ≡ result_ok r → None ≡ shortly (unhex text)
  decodes_none e = none_of (unhex text) new r e (decodes_by (unhex text) out new r l a b)

  pub decodes_some : (n : ℕ) → Some n ≡ result_ok r → Decodes (unhex text) new (Ok n)
  decodes_some n e = some_of (unhex text) new r n e (decodes_by (unhex text) out new r l a b)
