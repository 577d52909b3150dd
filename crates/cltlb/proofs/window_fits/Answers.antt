-- `cltlb::window_fits` meets its contract. Assumes nothing.
use mathlib.Core.Path.{refl}
use Rattle.cltlb.specs.Fits.{window_fits}
use Rattle.cltlb.proofs.window_fits.Goals as goal

pub returns : goal.returns
unfolding window_fits
returns c = refl
