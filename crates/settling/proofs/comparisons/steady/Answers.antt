-- `settling::comparisons::steady` meets its contract. Assumes nothing.
use Rattle.settling.proofs.Looked as law
use Rattle.settling.proofs.comparisons.steady.Goals as goal

pub loop-t-init : goal.loop-t-init
loop-t-init c = law.looked_first c.args.plan.now.bytes.now c.args.comparison c.args.from c.args.plan.now.sizes.cycle

pub returns-then-is_changes : goal.returns-then-is_changes
returns-then-is_changes c = law.looked_changes c.args.plan.now.bytes.now c.args.comparison c.args.from c.args.plan.now.sizes.cycle c.loop-t.invariant c.loop-t-test.true c.judge_cycle.ensures c.is_changes.ensures c.if-is_changes.true

pub loop-t-preserved : goal.loop-t-preserved
loop-t-preserved c = law.looked_on c.args.plan.now.bytes.now c.args.comparison c.args.from c.args.plan.now.sizes.cycle c.loop-t.invariant c.loop-t-test.true c.judge_cycle.ensures c.is_changes.ensures c.if-is_changes.false

pub returns : goal.returns
returns c = law.looked_all c.args.plan.now.bytes.now c.args.comparison c.args.from c.args.plan.now.sizes.cycle c.loop-t.invariant c.loop-t-test.false
