use Rattle.terms.specs.declared.refusal.Refusal.{Refusal}
use Rattle.terms.specs.declared.fault.Fault.{Fault}
use Rattle.terms.proofs.Questions.{in_order}
use Rattle.terms.proofs.laws.questions_in_order.Goals as goal

pub returns : goal.returns
returns c = (in_order Fault, in_order Refusal)
