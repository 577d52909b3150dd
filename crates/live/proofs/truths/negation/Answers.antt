use borrow.Author.Tests.{eq-eqb, ne_eqb}
use Rattle.live.specs.Truths.{negated}
use Rattle.live.proofs.truths.negation.Goals as goal

-- src/truths.rt:22:1
pub returns-then-x-eq1 : goal.returns-then-x-eq1
unfolding negated
returns-then-x-eq1 c = simp (eq-eqb _ _ c.if-x-eq1.true)

-- src/truths.rt:22:1
pub returns-else-x-eq1 : goal.returns-else-x-eq1
unfolding negated
returns-else-x-eq1 c = simp (ne_eqb _ _ c.if-x-eq1.false)
