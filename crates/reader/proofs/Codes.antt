-- The code in a string, as its type's table takes it.
use Rattle.std.proofs.Common.{◌≡◌, ℕ, Bool, true, false, cond, leb, List, [], ◌∷◌, is_some, Some, None, Ok, Err, Option, Result, unwrap_or, sym, refl, ap, ◌∙◌, arith}
use Rattle.std.proofs.lemmas.Bool.Decides.{nat_tests}
use Rattle.terms.specs.declared.fault.Fault.{Fault}
use Rattle.terms.specs.declared.fault.Layer.TheVariants as layer
use Rattle.terms.specs.Question.{Question, first_no, told_of, told}
use Rattle.terms.specs.Cause.{ask, fault_of}
use Rattle.terms.proofs.Questions.{told_err, told_ok, told_holds, all_none}
use Rattle.wire.specs.declared.code.ErrorCode.TheVariants as error
use Rattle.wire.specs.declared.code.ReleaseCode.TheVariants as release
use Rattle.wire.specs.declared.code.ErrorCode.{ErrorCode}
use Rattle.wire.specs.declared.code.ReleaseCode.{ReleaseCode}
use Rattle.wire.specs.NoSuchNumber.{named}
use Rattle.wire.specs.Code.{error_numbered, release_numbered}
use Rattle.wire.specs.Pdu.{Read, error_of, release_of, exact_questions, code_questions, code_in, told_form, error_form, release_form}
use Rattle.reader.specs.Code.{IsCodeIn, or_fault}

pub exactly_none : (xs : List ℕ) → Ok tt ≡ told (exact_questions 2 xs) (tt {0}) → first_no (exact_questions 2 xs) ≡ None
exactly_none xs e = all_none (exact_questions 2 xs) (told_holds (exact_questions 2 xs) (tt {0}) (tt {0}) (sym e))

abbrev pub form_seen : {C : Type 0} → (C → Read) → Result C Fault → Result Read Fault
form_seen form (Ok c) = Ok (form c)
form_seen form (Err f) = Err f

module _ {C : Type 0} (numbered : ℕ → Option C) (unknown : C) (form : C → Read) (xs : List ℕ) where
  abbrev last : List (Question Fault)
  last = ask (leb (code_in xs) 3) 42 1 layer.Pdu ∷ []

  taken : (o : Option C) (b : Bool) → is_some o ≡ b → form_seen form (or_fault (named o)) ≡ told_of (cond b None (Some (fault_of 42 1 layer.Pdu))) (form (unwrap_or o unknown))
  taken (Some c) true e = refl
  taken (Some c) false e = cc
  taken None true e = cc
  taken None false e = refl

  turn : (m : Option Fault) (r : Result C Fault) → first_no (exact_questions 2 xs) ≡ m → is_some (numbered (code_in xs)) ≡ leb (code_in xs) 3 → IsCodeIn (λ n o. o ≡ named (numbered n)) xs r
      → form_seen form r ≡ told (code_questions xs) (form (unwrap_or (numbered (code_in xs)) unknown))
  turn (Some f) r e t h = ap (form_seen form) (h.uncounted f e) ∙ sym (told_err (exact_questions 2 xs) last f (tt {0}) (form (unwrap_or (numbered (code_in xs)) unknown)) (ap (λ m. told_of m (tt {0})) e))
  turn None r e t h =
      let k = h.counted e in
      ap (form_seen form) (k.2 ∙ ap or_fault k.1) ∙ taken (numbered (code_in xs)) (leb (code_in xs) 3) t
      ∙ sym (told_ok (exact_questions 2 xs) last (tt {0}) (tt {0}) (form (unwrap_or (numbered (code_in xs)) unknown)) (ap (λ m. told_of m (tt {0})) e))

three : (n : ℕ) → is_some (error_numbered n) ≡ leb n 3
three n = grind (arith, nat_tests)

three_release : (n : ℕ) → is_some (release_numbered n) ≡ leb n 3
three_release n = grind (arith, nat_tests)

pub error_is : (xs : List ℕ) (r : Result ErrorCode Fault) → IsCodeIn (λ n o. o ≡ named (error_numbered n)) xs r → form_seen error_of r ≡ told_form (error_form xs)
error_is xs r h = turn error_numbered error.Unknown error_of xs (first_no (exact_questions 2 xs)) r refl (three (code_in xs)) h

pub release_is : (xs : List ℕ) (r : Result ReleaseCode Fault) → IsCodeIn (λ n o. o ≡ named (release_numbered n)) xs r → form_seen release_of r ≡ told_form (release_form xs)
release_is xs r h = turn release_numbered release.Unknown release_of xs (first_no (exact_questions 2 xs)) r refl (three_release (code_in xs)) h
