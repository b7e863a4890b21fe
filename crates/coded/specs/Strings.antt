-- Strings on their way through a coding.
use Rattle.std.specs.Prelude.{◌≡◌, ℕ, suc, ◌<◌, ◌≤◌, true, List, [], ◌∷◌, ◌++◌, length, take, drop, Some, None, Ok, Err, Option, Result, MatchResult, is_ok, nat_le, slice_index, refl}
use Rattle.std.proofs.Common.{sym, ap, ◌∙◌, arith, le-leb}
use Rattle.std.proofs.Math.Seq.{take-append_seam}
use Rattle.std.proofs.lemmas.Bool.{and_from}
use Rattle.terms.specs.declared.refusal.Refusal.{Refusal}
use Rattle.terms.specs.declared.stop.Stop.{Stop}
use Rattle.terms.specs.Buffer.{answer_of, left_in}
use Rattle.bearer.specs.declared.heard.Garbled.{Garbled}
use Rattle.bearer.specs.Meaning.{low, text_in, over}
use Rattle.terms.specs.AtMost.{AtMost, Octets}
use Rattle.coding.specs.Coding.{Lawful, most}
use Rattle.terms.proofs.Decodes.{decode_done}
use Rattle.terms.specs.Decoded.{decoded_by, decoded_in}
use Rattle.terms.proofs.Buffers.{room}
use Rattle.coding.proofs.Most.{most_fits, grows_to, at_least}
use Rattle.coded.specs.Coded.{string_from}

pub octets_from : (xs : List ℕ) → ((i : ℕ) → slice_index xs i < 256) → Octets xs
octets_from [] h = tt
octets_from (x ∷ xs) h = (omega (arith, h 0), octets_from xs (λ i. h (suc i)))

-- octets that none passes a bound are low for every greater one
pub low_of : (a b : ℕ) (xs : List ℕ) → a ≤ b → AtMost a xs → low b xs ≡ true
low_of a b [] h o = refl
low_of a b (x ∷ xs) h o = and_from (nat_le x b) (low b xs) (le-leb x b (omega (arith, h, o.0))) (low_of a b xs h o.1)

-- what was written into a place of octets that holds it
pub written : (ys old new : List ℕ) (r : Result ℕ Refusal) → length ys ≤ length old → r ≡ answer_of ys old → new ≡ left_in ys old → (r ≡ Ok (length ys)) × (take (length ys) new ≡ ys)
written ys old new r h a e =
    let p = room ys old (ys ++ drop (length ys) old) (length ys) refl h refl in
    (a ∙ sym p.0, ap (take (length ys)) (e ∙ sym p.1) ∙ take-append_seam ys (drop (length ys) old))

-- the result is no longer than the place
abbrev pub Held : Option (List ℕ) → List ℕ → Type 0
Held None place = Unit {0}
Held (Some xs) place = length xs ≤ length place

-- what a decode answered, of which only the count is kept
abbrev counted : Result ℕ Stop → Result ℕ Garbled
counted (Ok n) = Ok n
counted (Err e) = Err (record {})

counted_is : (P : Stop → Type 0) (r : Result ℕ Stop) (t : Result ℕ Garbled) → MatchResult r (λ n. t ≡ Ok n) P → is_ok t ≡ is_ok r → t ≡ counted r
counted_is P (Ok n) t m v = m
counted_is P (Err e) (Ok n) m v = cc v
counted_is P (Err e) (Err g) m v = refl

decoded_told : (o : Option (List ℕ)) (place new : List ℕ) (r : Result ℕ Stop) → Held o place → r ≡ decoded_by o place → new ≡ decoded_in o place
    → (counted r ≡ text_in (string_from o)) × (new ≡ over (Some (string_from o)) place)
decoded_told None place new r h a e = (ap counted a, e)
decoded_told (Some xs) place new r h a e =
    let p = decode_done (Some xs) xs place (xs ++ drop (length xs) place) (length xs) refl refl h refl in
    (ap counted (a ∙ sym p.0), e ∙ sym p.1)

pub told : (P : Stop → Type 0) (o : Option (List ℕ)) (place new : List ℕ) (r : Result ℕ Stop) (t : Result ℕ Garbled) → Held o place → r ≡ decoded_by o place → new ≡ decoded_in o place
    → MatchResult r (λ n. t ≡ Ok n) P → is_ok t ≡ is_ok r → (t ≡ text_in (string_from o)) × (new ≡ over (Some (string_from o)) place)
told P o place new r t h a e m v =
    let p = decoded_told o place new r h a e in
    (counted_is P r t m v ∙ p.0, p.1)

module _ {top : ℕ} {encoded : List ℕ → List ℕ} {decoded : List ℕ → Option (List ℕ)} {size : ℕ → ℕ} (laws : Lawful top encoded decoded size) where
  -- octets no more than the longest string have an encoding that fits
  pub fits : (room : ℕ) (xs : List ℕ) → length xs ≤ most size room → length (encoded xs) ≤ room
  fits room xs h =
      omega (arith, laws.sized xs, grows_to size laws.none laws.grows (length xs) (most size room) h, most_fits size laws.none laws.grows room)

  -- a decoding is no longer than what was decoded
  pub shorter : (ys xs : List ℕ) → decoded ys ≡ Some xs → size (length xs) ≡ length ys
  shorter ys xs e = sym (laws.sized xs) ∙ ap length (sym (laws.only ys xs e).1)

  held_by : (ys place : List ℕ) (o : Option (List ℕ)) → decoded ys ≡ o → length ys ≤ length place → Held o place
  held_by ys place None e h = tt
  held_by ys place (Some xs) e h = omega (arith, shorter ys xs e, at_least size laws.none laws.grows (length xs))

  pub held : (ys place : List ℕ) → length ys ≤ length place → Held (decoded ys) place
  held ys place h = held_by ys place (decoded ys) refl h
