-- `laid_out::fits::row_too_large` meets its contract. Assumes nothing.
use mathlib.Core.Path.{refl}
use Rattle.std.proofs.Common.{rules}
use Rattle.plan.proofs.Searches.{any_found}
use Rattle.laid_out.specs.inner.LastCycle.{number_too_large, row_too_large}
use Rattle.laid_out.proofs.LastCycle.{number_seen}
use Rattle.laid_out.proofs.fits.row_too_large.Goals as goal

pub returns : goal.returns
unfolding row_too_large
returns c = let plan = c.args.plan.now in
    rw plan.fits.v_is (any_found (number_too_large plan.bytes.now c.args.row c.args.pass) plan.sizes.channels _ _ _ refl c.any.ensures.ran (λ x b q called. search (rules, number_seen)))
