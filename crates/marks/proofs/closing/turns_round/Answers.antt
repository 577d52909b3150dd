use mathlib.Core.Path.{refl}
use Rattle.plan.specs.inner.Sizes.{all_rows}
use Rattle.table.specs.Layout.{marked}
use Rattle.marks.proofs.Stepped as law
use Rattle.marks.proofs.closing.turns_round.Goals as goal

pub returns : goal.returns
returns c = law.turned c.args.table.now.sizes.start c.args.table.now.sizes.cycle (marked (all_rows c.args.table.now.sizes) c.args.table.now.bytes.now) c.args.operator c.args.start c.args.end c.watched_truth-before.ensures c.step_on.ensures refl
