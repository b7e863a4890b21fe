-- The steps of reading a string, as far as they were taken.
use Rattle.std.specs.Prelude.{ℕ, ◌+◌, Bool, true, cond, ◌&&◌, List, [], ◌∷◌, ◌++◌, map, length, Ok, Err, Result, ◌==◌, nat_le, nat_lt, slice_range}
use Rattle.terms.specs.declared.cause.Cause.{Cause}
use Rattle.terms.specs.declared.fault.Fault.{Fault}
use Rattle.terms.specs.Cause.{cause_number}
use Rattle.wire.specs.declared.code.ErrorCode.{ErrorCode}
use Rattle.wire.specs.declared.code.ReleaseCode.{ReleaseCode}
use Rattle.wire.specs.Header.{Element}
use Rattle.wire.specs.Pdu.{Carried, Read, data_of, long_of, ready, error_of, release_of, first, header_size, header_elements}
use Rattle.steps.specs.declared.step.Step.{Step}
use Rattle.steps.specs.declared.step.Step.TheVariants as step
use Rattle.rules.specs.Places.{header_place}

-- a step as plain data
pub data Taken : Type 0 where
  first_octet : ℕ → Taken
  field : List ℕ → Taken
  header_length : (place length : ℕ) → Taken
  element : Element → Taken
  user : (place count : ℕ) → Taken
  error_code : ErrorCode → Taken
  release_code : ReleaseCode → Taken

abbrev pub seen_step : Step → Taken
seen_step (step.First x) = first_octet x
seen_step (step.Field xs) = field xs.now
seen_step (step.HeaderLength place length) = header_length place length
seen_step (step.Element place kind xs) = element (record { at = place; kind = kind; octets = xs.now; whole = true })
seen_step (step.User place count) = user place count
seen_step (step.ErrorTold code) = error_code code
seen_step (step.Released code) = release_code code

abbrev pub seen_steps : List Step → List Taken
seen_steps steps = map seen_step steps

-- the elements from the left that are whole and begin before a place
abbrev pub before : ℕ → List Element → List Taken
before until [] = []
before until (e ∷ es) = cond (e.whole && nat_lt e.at until) (element e ∷ before until es) []

-- the length octet, where the header lies within the string, and the elements that begin before a place
abbrev pub header_steps : (at until : ℕ) → List ℕ → List Taken
header_steps at until xs = cond (nat_le (at + 1 + header_size at xs) (length xs)) (header_length at (header_size at xs) ∷ before until (header_elements at xs)) []

abbrev pub body_steps : List ℕ → Carried → List Taken
body_steps xs c = header_steps c.header (length xs) xs ++ (user c.user.place (length c.user.octets) ∷ [])

-- what was read behind the first octet of a PDU
abbrev pub pdu_steps : List ℕ → Read → List Taken
pdu_steps xs (data_of more c) = body_steps xs c
pdu_steps xs (long_of more a c) = field a.octets ∷ body_steps xs c
pdu_steps xs ready = []
pdu_steps xs (error_of code) = error_code code ∷ []
pdu_steps xs (release_of code) = release_code code ∷ []

-- the address field, which stands before a header that is not the first behind the opening octet
abbrev pub field_steps : (at : ℕ) → List ℕ → List Taken
field_steps at xs = cond (nat_lt 1 at && nat_le at (length xs)) (field (slice_range xs 1 at) ∷ []) []

-- the elements before the fault; a fault at the length octet of a header within the string is the lack of ports, and all elements were read
abbrev pub until_fault : (at place : ℕ) → List ℕ → ℕ
until_fault at place xs = cond (place == at) (length xs) place

abbrev pub header_fault_steps : (at place : ℕ) → List ℕ → List Taken
header_fault_steps at place xs = field_steps at xs ++ header_steps at (until_fault at place xs) xs

abbrev pub in_header : Cause → Bool
in_header c = cause_number c == 45

-- a fault at the first octet leaves no step; one in the header leaves those before it; any other leaves the first octet
abbrev pub fault_steps : List ℕ → Fault → List Taken
fault_steps xs f =
    cond (f.place == 0) [] (first_octet (first xs) ∷ cond (in_header f.cause) (header_fault_steps (header_place xs) f.place xs) [])

abbrev pub steps_of : List ℕ → Result Read Fault → List Taken
steps_of xs (Ok p) = first_octet (first xs) ∷ pdu_steps xs p
steps_of xs (Err f) = fault_steps xs f
