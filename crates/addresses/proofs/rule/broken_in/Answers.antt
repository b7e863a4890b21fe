use Rattle.std.proofs.Common.{◌≡◌, is_some, ap, ◌∙◌, arith}
use Rattle.std.proofs.lemmas.Grind.{common_steps}
use Rattle.terms.specs.Question.{first_no}
use Rattle.addresses.specs.AddressRules.{field_questions}
use Rattle.addresses.proofs.Agreeing.{field_agree}
use Rattle.addresses.proofs.rule.broken_in.Goals as goal

pub returns-clause-agrees : goal.returns-clause-agrees
returns-clause-agrees c =
    let xs = c.args.octets.now in
    let e : c.content_rule.result ≡ first_no (field_questions xs) = grind (arith, common_steps) in
    ap is_some e ∙ field_agree xs
