use borrow.Author.Tests.{eq-eqb, ne_eqb}
use Rattle.live.specs.Truths.{earlier}
use Rattle.live.proofs.truths.since_add.Goals as goal

-- src/truths.rt:87:1
pub returns-then-age-eq1 : goal.returns-then-age-eq1
unfolding earlier
returns-then-age-eq1 c = simp (eq-eqb _ _ c.if-age-eq1.true)

-- src/truths.rt:87:1
pub returns-else-age-eq1 : goal.returns-else-age-eq1
unfolding earlier
returns-else-age-eq1 c = simp (ne_eqb _ _ c.if-age-eq1.false)
