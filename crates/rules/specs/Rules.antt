use Rattle.std.specs.Prelude.{◌≡◌, Option, IfSome}
use Rattle.terms.specs.declared.cause.Cause.{Cause}
use Rattle.terms.specs.declared.cause.Cause.TheVariants as cause
use Rattle.rules.specs.declared.rule.Rule.{Rule}
use Rattle.rules.specs.declared.rule.Rule.TheVariants as rule

-- the cause that a broken rule has
abbrev pub cause_of : Rule → Cause
cause_of rule.Empty = cause.Empty
cause_of (rule.Version n) = cause.Version
cause_of (rule.NoType n) = cause.Kind
cause_of (rule.MoreToSend k) = cause.Kind
cause_of (rule.TooMany k) = cause.OctetCount
cause_of (rule.CodeMissing k) = cause.OctetCount
cause_of (rule.NoCode k c) = cause.Kind
cause_of (rule.Address r) = cause.AddressField
cause_of (rule.Header r) = cause.Header
cause_of (rule.Other c) = c

-- a rule that was found broken is one of a cause
abbrev pub OfCause : Cause → Option Rule → Type 0
OfCause cause found = IfSome found (λ rule. cause_of rule ≡ cause)
