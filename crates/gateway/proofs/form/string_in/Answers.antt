use Rattle.std.proofs.Common.{sym, ◌∙◌}
use Rattle.gateway.proofs.Texts.{between_is}
use Rattle.gateway.proofs.form.string_in.Goals as goal

pub returns : goal.returns
returns c = c.unhexed.ensures ∙ sym (between_is c.args.front.now c.args.back.now c.args.line.now c.in_ok-inside.field-0.now c.in_ok-inside.ensures)
