use Rattle.session.proofs.Steps.{moves_on, stays, free}
use Rattle.session.proofs.laws.sessions_in_step.Goals as goal

pub returns : goal.returns
returns c = (moves_on, stays, free)
