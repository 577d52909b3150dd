-- `verdict::weeks::decide_within` meets its contract. Assumes nothing.
use mathlib.Core.Path.{◌∙◌}
use Rattle.fields.specs.inner.Biased.{bias}
use Rattle.plan.specs.inner.Lifted.{value_bias}
use Rattle.verdict.proofs.Minutes.{within_spaced}
use Rattle.verdict.proofs.weeks.decide_within.Goals as goal

pub returns : goal.returns
returns c = c.decide_spaced.ensures ∙ within_spaced _ value_bias bias c.args.x.at c.args.x.step c.args.y.at c.args.y.step c.minutes_after.ensures c.spacing-apart.ensures.0 c.minutes_after-2.ensures
