use Rattle.plan.specs.inner.Sizes.{all_rows}
use Rattle.table.specs.Layout.{marked}
use Rattle.marks.proofs.Stepped as law
use Rattle.marks.proofs.closing.truth_on.Goals as goal

pub loop-at-init : goal.loop-at-init
loop-at-init c = law.first_truth (marked (all_rows c.args.table.now.sizes) c.args.table.now.bytes.now) c.args.operator c.args.first c.step_on-truth.ensures

pub loop-at-preserved : goal.loop-at-preserved
loop-at-preserved c = law.next_truth (marked (all_rows c.args.table.now.sizes) c.args.table.now.bytes.now) c.args.operator c.args.first c.loop-at.at c.loop-at.invariant c.watched_truth-before.ensures c.step_on-truth-in-loop-at.ensures
