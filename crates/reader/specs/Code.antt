use Rattle.std.specs.Prelude.{◌≡◌, ℕ, List, Some, None, Ok, Err, Result}
use Rattle.terms.specs.declared.fault.Fault.{Fault}
use Rattle.terms.specs.declared.fault.Layer.TheVariants as layer
use Rattle.terms.specs.Question.{first_no}
use Rattle.terms.specs.Cause.{fault_of}
use Rattle.wire.specs.declared.no_such_number.NoSuchNumber.{NoSuchNumber}
use Rattle.wire.specs.Pdu.{exact_questions, code_in}

-- a number that names nothing is a wrong code octet
abbrev pub or_fault : {C : Type 0} → Result C NoSuchNumber → Result C Fault
or_fault (Ok c) = Ok c
or_fault (Err e) = Err (fault_of 42 1 layer.Pdu)

-- the code in a string of two octets, where its type takes the second
pub record IsCodeIn {C : Type 0} (takes : ℕ → Result C NoSuchNumber → Type 0) (xs : List ℕ) (r : Result C Fault) : Type 0 where
  pub uncounted : (f : Fault) → first_no (exact_questions 2 xs) ≡ Some f → r ≡ Err f
  pub counted : first_no (exact_questions 2 xs) ≡ None → (o : Result C NoSuchNumber) × takes (code_in xs) o × (r ≡ or_fault o)
