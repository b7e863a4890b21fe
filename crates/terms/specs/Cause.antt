use Rattle.std.specs.Prelude.{ℕ, Bool, List, [], ◌∷◌}
use Rattle.terms.specs.declared.cause.Cause.{Cause}
use Rattle.terms.specs.declared.cause.Cause.TheVariants.{Garbled, Empty, Kind, Version, AddressField, Header, OctetCount, OutOfStep, TooLong}
use Rattle.terms.specs.declared.fault.Layer.{Layer}
use Rattle.terms.specs.declared.fault.Fault.{Fault}
use Rattle.terms.specs.Question.{Question, numbered}

-- the published number of each cause
abbrev pub cause_number : Cause → ℕ
cause_number Garbled = 40
cause_number Empty = 41
cause_number Kind = 42
cause_number Version = 43
cause_number AddressField = 44
cause_number Header = 45
cause_number OctetCount = 46
cause_number OutOfStep = 47
cause_number TooLong = 48

abbrev pub causes : List Cause
causes = Garbled ∷ Empty ∷ Kind ∷ Version ∷ AddressField ∷ Header ∷ OctetCount ∷ OutOfStep ∷ []

-- the cause that a published number stands for
abbrev pub cause_numbered : ℕ → Cause
cause_numbered n = numbered cause_number causes TooLong n

abbrev pub fault_of : ℕ → ℕ → Layer → Fault
fault_of n at l = record { cause = cause_numbered n; place = at; layer = l }

-- a question whose no is the fault with the cause of a number, at a place, found by a layer
abbrev pub ask : Bool → ℕ → ℕ → Layer → Question Fault
ask b n at l = record { holds = b; otherwise = fault_of n at l }
