use mathlib.Core.Path.{sym}
use Rattle.live.proofs.TruthLaws as law
use Rattle.live.proofs.truths.truths_of.Goals as goal

-- src/truths.rt:160:5
pub loop-i-init : goal.loop-i-init
loop-i-init c = sym (law.truths_none c.args.readings.now c.args.age c.args.rule.now c.args.before.now c.args.n)

-- src/truths.rt:160:5
pub loop-i-preserved : goal.loop-i-preserved
loop-i-preserved c = law.truths_more c.args.readings.now c.args.age c.args.rule.now c.args.before.now c.args.n _ c.loop-i.invariant c.kind_truth-byte.ensures
