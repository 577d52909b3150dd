use mathlib.Core.Path.{sym, ap}
use Rattle.refusal.specs.First.{unless}
use Rattle.refusal.specs.declared.Refusal.TheVariants.{Closing}
use Rattle.marks.proofs.refusals.closing_outcome.Goals as goal

pub returns-then-closed : goal.returns-then-closed
unfolding unless
returns-then-closed c = sym (ap (λ b. unless b (Closing c.args.i c.args.sizes.start)) c.if-closed.true)

pub returns-else-closed : goal.returns-else-closed
unfolding unless
returns-else-closed c = sym (ap (λ b. unless b (Closing c.args.i c.args.sizes.start)) c.if-closed.false)
