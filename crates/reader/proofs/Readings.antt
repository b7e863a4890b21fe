use Rattle.std.proofs.Common.{◌≡◌, ℕ, ◌/◌, ◌%◌, Bool, true, false, eqb, List, get_or, IfOk, Ok, Err, Result, sym, refl}
use Rattle.terms.specs.declared.fault.Fault.{Fault}
use Rattle.terms.specs.Question.{told}
use Rattle.wire.specs.declared.kind.Kind.{Kind}
use Rattle.wire.specs.declared.kind.Kind.TheVariants as kind
use Rattle.wire.specs.declared.pdu.Pdu.{Pdu}
use Rattle.wire.specs.Pdu.{Read, Form, start_questions, told_form, data_form, long_form, ready_form, error_form, release_form, form_of, seen_pdu, seen, reading}
use Rattle.wire.specs.Format.{Stands, opening}
use Rattle.wire.proofs.Readings.{by_form}
use Rattle.wire.proofs.Sounds.{sound}

-- the form of a type, with the flag
abbrev pub form_in : Kind → Bool → List ℕ → Form
form_in kind.Data m xs = data_form m xs
form_in kind.DataLong m xs = long_form m xs
form_in kind.Ready m xs = ready_form xs
form_in kind.Error m xs = error_form xs
form_in kind.Release m xs = release_form xs

form_opened : (k : Kind) (m : Bool) (xs : List ℕ) → form_of (opening k m / 2) (eqb (opening k m % 2) 1) xs ≡ form_in k m xs
form_opened kind.Data true xs = refl
form_opened kind.Data false xs = refl
form_opened kind.DataLong true xs = refl
form_opened kind.DataLong false xs = refl
form_opened kind.Ready true xs = refl
form_opened kind.Ready false xs = refl
form_opened kind.Error true xs = refl
form_opened kind.Error false xs = refl
form_opened kind.Release true xs = refl
form_opened kind.Release false xs = refl

pub by_kind : (xs : List ℕ) (k : Kind) (m : Bool) (r : Result Read Fault) → Ok (opening k m) ≡ told (start_questions xs) (get_or xs 0 0) → r ≡ told_form (form_in k m xs) → r ≡ reading xs
by_kind xs k m r e h = by_form xs (opening k m) (form_in k m xs) r e (form_opened k m xs) h

pub sound_at : (r : Result Pdu Fault) (xs : List ℕ) → seen r ≡ reading xs → IfOk r (λ p. Stands xs (seen_pdu p))
sound_at (Ok p) xs e = sound xs (seen_pdu p) (sym e)
sound_at (Err f) xs e = tt
