use Rattle.std.proofs.Common.{◌≡◌, ◌+◌, ◌-◌, ◌*◌, drop}
use Rattle.terms.specs.Question.{first_no}
use Rattle.addresses.specs.AddressRules.{digits_questions}
use Rattle.addresses.proofs.rule.digits_rule.Given as goal

abbrev pub invariant-loop-i : goal.invariant-loop-i
invariant-loop-i l = first_no (digits_questions (l.count - 2 * l.i) (4 + l.i) (drop l.i l.octets)) ≡ first_no (digits_questions l.count 4 l.octets)
