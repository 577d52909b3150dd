-- `verdict::tops::decide_under` meets its contract. Assumes nothing.
use mathlib.Core.Path.{◌∙◌}
use Rattle.verdict.specs.Tops.{judge_under}
use Rattle.verdict.proofs.UnderTops.{under_numbers}
use Rattle.verdict.proofs.tops.decide_under.Goals as goal

pub returns-in-Pinned : goal.returns-in-Pinned
unfolding judge_under
returns-in-Pinned c = rw c.in-Pinned.is c.decide_pinned.ensures

pub returns-in_default : goal.returns-in_default
returns-in_default c = c.decide_free.ensures ∙ under_numbers c.args.relation _ _ _ _ c.in_default.not-Pinned
