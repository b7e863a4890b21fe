use Rattle.std.specs.Prelude.{ℕ, Bool, Ok, Err, Result}
use Rattle.terms.specs.declared.fault.Fault.{Fault}
use Rattle.wire.specs.declared.kind.Kind.{Kind}
use Rattle.wire.specs.Format.{opening}

-- a type and a flag, as the first octet that tells them
abbrev pub seen_opening : Result (Kind × Bool) Fault → Result ℕ Fault
seen_opening (Ok o) = Ok (opening o.0 o.1)
seen_opening (Err f) = Err f
