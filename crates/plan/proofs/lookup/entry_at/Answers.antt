-- `plan::lookup::entry_at` meets its contract. Assumes nothing.
use mathlib.Core.Path.{◌∙◌, ap}
use Rattle.fields.specs.TwosComplement.{signed_of, signed_at}
use Rattle.plan.specs.Layout.{entry}
use Rattle.plan.proofs.lookup.entry_at.Goals as goal

pub returns : goal.returns
unfolding entry signed_at
returns c = (c.biased.ensures.0 ∙ ap (signed_of 4) c.u32_at.ensures, c.biased.ensures.1)
