-- `laid_out::fits::cycle_too_large` meets its contract. Assumes nothing.
use Prim.Native.Nat.{◌+◌}
use mathlib.Core.Path.{refl}
use Rattle.std.proofs.Common.{rules}
use Rattle.plan.proofs.Searches.{any_found}
use Rattle.laid_out.specs.inner.LastCycle.{row_too_large, cycle_too_large}
use Rattle.laid_out.proofs.fits.cycle_too_large.Goals as goal

pub returns : goal.returns
unfolding cycle_too_large
returns c = let plan = c.args.plan.now in
    rw (plan.fits.c_is, plan.fits.p_is) (any_found (λ j. row_too_large plan.bytes.now (plan.sizes.start + j) c.args.pass) plan.sizes.cycle _ _ _ refl c.any.ensures.ran (λ x b q called. search rules))
