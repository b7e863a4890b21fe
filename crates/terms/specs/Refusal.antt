use Rattle.std.specs.Prelude.{ℕ, Bool, List, [], ◌∷◌}
use Rattle.terms.specs.declared.refusal.Refusal.{Refusal}
use Rattle.terms.specs.declared.refusal.Refusal.TheVariants.{ServiceCode, LongestString, Limits, Ending, Msisdn, NoAddress, DatagramTooLong, TooManySegments, BatchFull, OutboxFull, OutboxOctets, OtherLongest, LowOctetsOnly, Unread, NothingUnread, ReadBuffer, NoDialogue, Buffer, AlreadyOpen, OpeningCode, StringTooLong, OctetTooHigh, NumbersSpent, NotOpen, NotYourTurn, NothingForYou, RawTooLong}
use Rattle.terms.specs.Question.{Question, numbered}

-- the published number of each refusal
abbrev pub refusal_number : Refusal → ℕ
refusal_number ServiceCode = 1
refusal_number LongestString = 2
refusal_number Limits = 3
refusal_number Ending = 4
refusal_number Msisdn = 5
refusal_number NoAddress = 6
refusal_number DatagramTooLong = 7
refusal_number TooManySegments = 8
refusal_number BatchFull = 9
refusal_number OutboxFull = 10
refusal_number OutboxOctets = 11
refusal_number OtherLongest = 12
refusal_number LowOctetsOnly = 13
refusal_number Unread = 14
refusal_number NothingUnread = 15
refusal_number ReadBuffer = 16
refusal_number NoDialogue = 17
refusal_number Buffer = 20
refusal_number AlreadyOpen = 21
refusal_number OpeningCode = 22
refusal_number StringTooLong = 23
refusal_number OctetTooHigh = 24
refusal_number NumbersSpent = 25
refusal_number NotOpen = 26
refusal_number NotYourTurn = 27
refusal_number NothingForYou = 28
refusal_number RawTooLong = 29

abbrev pub refusals : List Refusal
refusals =
    ServiceCode ∷ LongestString ∷ Limits ∷ Ending ∷ Msisdn ∷ NoAddress ∷ DatagramTooLong ∷ TooManySegments ∷ BatchFull ∷ OutboxFull ∷ OutboxOctets ∷ OtherLongest ∷ LowOctetsOnly ∷ Unread ∷ NothingUnread ∷ ReadBuffer ∷ NoDialogue
    ∷ Buffer ∷ AlreadyOpen ∷ OpeningCode ∷ StringTooLong ∷ OctetTooHigh ∷ NumbersSpent ∷ NotOpen ∷ NotYourTurn ∷ NothingForYou ∷ []

-- the refusal that a published number stands for
abbrev pub refusal_numbered : ℕ → Refusal
refusal_numbered n = numbered refusal_number refusals RawTooLong n

-- a question whose no is the refusal of a number
abbrev pub must : Bool → ℕ → Question Refusal
must b n = record { holds = b; otherwise = refusal_numbered n }
