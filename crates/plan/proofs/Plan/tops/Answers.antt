-- `plan::tops::tops` meets its contract. Assumes nothing.
use mathlib.Core.Path.{refl, sym}
use native.Mathlib.Omega.{arith}
use lib.ListN.{length-take, length-drop}
use Rattle.plan.proofs.Pinned.{tops_part}
use Rattle.plan.proofs.Plan.tops.Goals as goal

pub returns : goal.returns
returns c = let fits = c.args.self.now.fits in (tops_part _ (sym fits.v_is) _ _ refl c.head_length.ensures, simp (length-take, length-drop) (omega (arith, fits.whole)))
