-- `plan::landing::landing_of` meets its contract. Assumes nothing.
use Rattle.plan.proofs.Landings as law
use Rattle.plan.proofs.landing.landing_of.Goals as goal

pub returns-then-at-sizes : goal.returns-then-at-sizes
returns-then-at-sizes c = (law.lands_at_once _ _ c.requires.0 _ _ c.requires.2 c.if-sizes-at.true c.if-at-sizes.true, law.lands_on_pass _ _ c.requires.0 _ _ c.requires.2 c.if-sizes-at.true c.if-at-sizes.true)

pub returns : goal.returns
returns c = (law.row_by_rule _ _ _ _, law.off_by_rule _ _ _ _)
