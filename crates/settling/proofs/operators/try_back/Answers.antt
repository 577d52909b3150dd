-- `settling::operators::try_back` meets its contract. Assumes nothing.
use native.Mathlib.Omega.{arith}
use mathlib.Core.Path.{refl, ◌∙◌}
use Rattle.settling.proofs.Stepping.{names_few, back_tried}
use Rattle.settling.proofs.operators.try_back.Goals as goal

pub step_on-requires : goal.step_on-requires
step_on-requires c = (c.mark_onward-end.ensures.1.long ∙ c.requires.0, names_few c.args.operator c.requires.1 c.requires.2, omega (arith, c.requires.4, c.requires.5))

pub returns : goal.returns
returns c = back_tried _ _ _ _ _ c.requires.3 c.mark_onward-end.ensures.1 c.requires.4 c.requires.2 c.mark_onward-end.ensures.0 c.mark_at.ensures c.step_on.ensures refl
