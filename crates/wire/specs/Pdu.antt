-- Reading a string: its questions in order, each with cause, place and layer, and what stands there where all hold.
use Rattle.std.specs.Prelude.{ℕ, ◌+◌, ◌/◌, ◌%◌, Bool, cond, not, ◌&&◌, ◌||◌, List, [], ◌∷◌, ◌++◌, length, take, drop, is_some, Ok, Err, Option, Result, ◌==◌, nat_le, nat_lt, slice_index}
use Rattle.std.specs.Option.{unwrap_or}
use Rattle.terms.specs.declared.fault.Fault.{Fault}
use Rattle.terms.specs.declared.fault.Layer.TheVariants as layer
use Rattle.terms.specs.Question.{Question, told}
use Rattle.terms.specs.Cause.{ask}
use Rattle.wire.specs.declared.pdu.Part as the_part
use Rattle.wire.specs.declared.pdu.Body as the_body
use Rattle.wire.specs.declared.pdu.Pdu as the_pdu
use Rattle.wire.specs.declared.pdu.Pdu.TheVariants as is
use Rattle.wire.specs.declared.kind.Kind.TheVariants as kind
use Rattle.wire.specs.declared.header.Ports.{Ports}
use Rattle.wire.specs.declared.header.SegmentAt.{SegmentAt}
use Rattle.wire.specs.declared.header.Found.{Found}
use Rattle.wire.specs.declared.code.ErrorCode.{ErrorCode}
use Rattle.wire.specs.declared.code.ErrorCode.TheVariants as error
use Rattle.wire.specs.declared.code.ReleaseCode.{ReleaseCode}
use Rattle.wire.specs.declared.code.ReleaseCode.TheVariants as release
use Rattle.wire.specs.Code.{error_numbered, release_numbered}
use Rattle.wire.specs.Kind.{kind_number}
use Rattle.wire.specs.Address.{address_fine, content_size}
use Rattle.wire.specs.Header.{Element, elements_in, questions_on, found_in}

-- octets of a string with their place in it
pub record Span : Type 0 where
  pub place : ℕ
  pub octets : List ℕ

-- what a header at a place and the octets behind it tell
pub record Carried : Type 0 where
  pub header : ℕ
  pub ports : Ports
  pub segment : Option SegmentAt
  pub user : Span

-- a PDU that was read, as plain data: the flag more to send, the address field, what is carried, the code
pub data Read : Type 0 where
  data_of : Bool → Carried → Read
  long_of : Bool → Span → Carried → Read
  ready : Read
  error_of : ErrorCode → Read
  release_of : ReleaseCode → Read

abbrev pub span : the_part.Part → Span
span p = record { place = p.place; octets = p.octets.now }

abbrev pub carried : the_body.Body → Carried
carried b = record { header = b.header; ports = b.ports; segment = b.segment; user = span b.user }

abbrev pub seen_body : Result the_body.Body Fault → Result Carried Fault
seen_body (Ok b) = Ok (carried b)
seen_body (Err f) = Err f

abbrev pub seen_pdu : the_pdu.Pdu → Read
seen_pdu (is.Data m b) = data_of m (carried b)
seen_pdu (is.DataLong m a b) = long_of m (span a) (carried b)
seen_pdu is.Ready = ready
seen_pdu (is.Error c) = error_of c
seen_pdu (is.Release c) = release_of c

abbrev pub seen : Result the_pdu.Pdu Fault → Result Read Fault
seen (Ok p) = Ok (seen_pdu p)
seen (Err f) = Err f

-- the first octet: bits 7 to 5 are the version, bits 4 to 1 the type, bit 0 more to send
abbrev pub first : List ℕ → ℕ
first xs = slice_index xs 0

abbrev pub kind_in : List ℕ → ℕ
kind_in xs = first xs / 2

abbrev pub more : List ℕ → Bool
more xs = first xs % 2 == 1

-- not empty; version 0; type 1 to 5; more to send only where data is carried
abbrev pub start_questions : List ℕ → List (Question Fault)
start_questions xs =
    ask (nat_le 1 (length xs)) 41 (length xs) layer.Pdu ∷ ask (nat_lt (first xs) 32) 43 0 layer.Pdu ∷ ask (nat_le (kind_number kind.Data) (kind_in xs) && nat_le (kind_in xs) (kind_number kind.Release)) 42 0 layer.Pdu
    ∷ ask (not (more xs) || nat_le (kind_in xs) (kind_number kind.DataLong)) 42 0 layer.Pdu ∷ []

-- exactly n octets: of too few the place is the string's length, of too many the first beyond
abbrev pub exact_questions : ℕ → List ℕ → List (Question Fault)
exact_questions n xs = ask (nat_le n (length xs)) 46 (length xs) layer.Pdu ∷ ask (nat_le (length xs) n) 46 n layer.Pdu ∷ []

-- the code octet of an Error or a release, which is 0 to 3
abbrev pub code_in : List ℕ → ℕ
code_in xs = slice_index xs 1

abbrev pub code_questions : List ℕ → List (Question Fault)
code_questions xs = exact_questions 2 xs ++ (ask (nat_le (code_in xs) 3) 42 1 layer.Pdu ∷ [])

abbrev pub address_questions : List ℕ → List (Question Fault)
address_questions xs = ask (address_fine (drop 1 xs)) 44 1 layer.Pdu ∷ []

-- the address field at place 1: the address octet and the octets that it tells
abbrev pub field_size : List ℕ → ℕ
field_size xs = 1 + content_size (drop 1 xs)

-- the length octet at `at` tells how many octets of elements follow
abbrev pub header_size : ℕ → List ℕ → ℕ
header_size at xs = slice_index xs at

abbrev pub header_elements : ℕ → List ℕ → List Element
header_elements at xs = elements_in 0 (at + 1) (take (header_size at xs) (drop (at + 1) xs))

abbrev pub header_found : ℕ → List ℕ → Found
header_found at xs = found_in (header_elements at xs)

-- the header lies within the string; each element is fine; there are ports
abbrev pub header_questions : ℕ → List ℕ → List (Question Fault)
header_questions at xs =
    ask (nat_le (at + 1 + header_size at xs) (length xs)) 45 at layer.Header ∷ (questions_on (header_elements at xs) ++ (ask (is_some (header_found at xs).ports) 45 at layer.Header ∷ []))

abbrev pub no_ports : Ports
no_ports = record { to = 0; from = 0 }

abbrev pub body_in : ℕ → List ℕ → Carried
body_in at xs =
    record {
      header = at;
      ports = unwrap_or (header_found at xs).ports no_ports;
      segment = (header_found at xs).segment;
      user = record { place = at + 1 + header_size at xs; octets = drop (at + 1 + header_size at xs) xs };
    }

-- the form of a type: its questions in order, and what stands where all hold
pub record Form : Type 0 where
  pub questions : List (Question Fault)
  pub stands : Read

abbrev pub told_form : Form → Result Read Fault
told_form f = told f.questions f.stands

abbrev pub data_form : Bool → List ℕ → Form
data_form m xs = record { questions = header_questions 1 xs; stands = data_of m (body_in 1 xs) }

abbrev pub field_in : List ℕ → Span
field_in xs = record { place = 1; octets = take (field_size xs) (drop 1 xs) }

abbrev pub long_form : Bool → List ℕ → Form
long_form m xs =
    record { questions = address_questions xs ++ header_questions (1 + field_size xs) xs; stands = long_of m (field_in xs) (body_in (1 + field_size xs) xs) }

abbrev pub ready_form : List ℕ → Form
ready_form xs = record { questions = exact_questions 1 xs; stands = ready }

abbrev pub error_form : List ℕ → Form
error_form xs = record { questions = code_questions xs; stands = error_of (unwrap_or (error_numbered (code_in xs)) error.Unknown) }

abbrev pub release_form : List ℕ → Form
release_form xs = record { questions = code_questions xs; stands = release_of (unwrap_or (release_numbered (code_in xs)) release.Unknown) }

abbrev pub form_of : ℕ → Bool → List ℕ → Form
form_of k m xs =
    cond (k == kind_number kind.Data) (data_form m xs)
    (cond (k == kind_number kind.DataLong) (long_form m xs)
    (cond (k == kind_number kind.Ready) (ready_form xs)
    (cond (k == kind_number kind.Error) (error_form xs) (release_form xs))))

-- a string reads as the first no among the questions of the first octet and then of its type's form, else as what stands there
abbrev pub reading : List ℕ → Result Read Fault
reading xs = told (start_questions xs ++ (form_of (kind_in xs) (more xs) xs).questions) (form_of (kind_in xs) (more xs) xs).stands
