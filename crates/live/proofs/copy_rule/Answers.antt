use Prim.Native.Nat.{◌*◌}
use mathlib.Core.Path.{◌≡◌, refl}
use lib.ListN.{length}
use Rattle.live.proofs.CallLaws as law
use native.Mathlib.Omega.{arith}
use Rattle.live.proofs.copy_rule.Goals as goal

pub loop-j-preserved : goal.loop-j-preserved
loop-j-preserved c = law.copy_next c.args.rules.now c.args.sheet.now _ (836 * c.args.place) _ _ (omega (arith, c.requires, c.well_formed)) c.loop-j-test.true c.loop-j.invariant refl

pub returns : goal.returns
returns c = let q : c.loop-j.j ≡ length c.args.sheet.now = omega arith in law.copy_all c.args.rules.now c.args.sheet.now _ (836 * c.args.place) _ c.loop-j.invariant q
