-- `plan::lookup::seen_at` meets its contract. Assumes nothing.
use mathlib.Core.Path.{ap, ◌∙◌}
use Rattle.plan.specs.Layout.{top_of}
use Rattle.plan.proofs.Pinned.{sees_under}
use Rattle.cltlb.specs.Run.{under}
use Rattle.plan.specs.inner.Lifted.{seen_of}
use Rattle.plan.proofs.Fits.{reached}
use Rattle.plan.proofs.Shifts.{in_run}
use Rattle.plan.proofs.Arrays.{value_at, before_lead, stored_value}
use native.Mathlib.Omega.{arith}
use Prim.Native.Nat.{◌-◌}
use Rattle.plan.proofs.Plan.seen_at.Goals as goal

pub returns-then-at-lt4 : goal.returns-then-at-lt4
unfolding seen_of
returns-then-at-lt4 c = (before_lead c.args.self.now.fits c.args.channel c.args.ahead c.if-at-lt4.true, tt)

pub returns-then-ahead-sizes : goal.returns-then-ahead-sizes
returns-then-ahead-sizes c = (sees_under c.args.self.now.bytes.now c.args.channel c.top_of-top.result c.stored_number.result c.seen_under.ensures.0 c.top_of-top.ensures.0 (stored_value c.args.self.now.fits c.args.channel c.args.ahead c.if-at-lt4.false c.if-ahead-sizes.true c.stored_number.ensures.0), c.seen_under.ensures.1)

pub number_at-requires : goal.number_at-requires
number_at-requires c = let within = reached c.args.self.now.fits (c.args.ahead - 4) (omega arith) in (c.requires.0, omega (arith, within.0), omega (arith, within.1))

pub returns : goal.returns
returns c = let value = value_at c.args.self.now.fits c.args.channel (c.args.ahead - 4) c.row_of.ensures c.pass_of.ensures in let seen = in_run c.args.self.now.bytes.now c.args.channel c.args.ahead (omega (arith, c.if-ahead-sizes.false)) in (sees_under c.args.self.now.bytes.now c.args.channel c.top_of-top.result c.number_at.result c.seen_under-2.ensures.0 c.top_of-top.ensures.0 (ap (under (top_of c.args.self.now.bytes.now c.args.channel)) (c.number_at.ensures.0 ∙ value) ∙ seen), c.seen_under-2.ensures.1)
