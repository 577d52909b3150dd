-- `plan::sweeps::stored_still` meets its contract. Assumes nothing.
use mathlib.Core.Path.{sym, ◌∙◌}
use Rattle.plan.proofs.Drifts.{numbers_there, still_rows}
use Rattle.plan.proofs.Plan.stored_still.Goals as goal

pub all_zero-requires : goal.all_zero-requires
all_zero-requires c = numbers_there c.args.self.now.fits _ _ c.requires.0 c.requires.1 _ c.drifts.ensures.1

pub returns : goal.returns
returns c = λ all. still_rows c.args.self.now.fits c.drifts.ensures.0 _ _ (sym c.all_zero.ensures ∙ all)
