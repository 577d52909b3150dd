-- `verdict::terms::reach_of` meets its contract. Assumes nothing.
use mathlib.Core.Path.{◌∙◌, ap}
use mir.Syntax.{w32}
use mir.ValLaws.{to_z-of_z}
use Rattle.verdict.specs.inner.Reach.{back, reach}
use Rattle.verdict.proofs.Values.{reading_reach}
use Rattle.verdict.proofs.terms.reach_of.Goals as goal

pub returns-in-Constant : goal.returns-in-Constant
unfolding reach
returns-in-Constant c = rw c.in-Constant.is

pub returns-in-Reading : goal.returns-in-Reading
returns-in-Reading c = c.back_of.ensures ∙ ap back (to_z-of_z w32 _ (record { sfits = c.in-Reading.known_told-1-own.given.1.0.1 })) ∙ reading_reach _ _ _ c.in-Reading.is
