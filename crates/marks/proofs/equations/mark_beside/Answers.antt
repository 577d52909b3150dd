use Rattle.plan.specs.inner.Sizes.{all_rows}
use Rattle.table.specs.Layout.{marked}
use Rattle.marks.proofs.Stepped as law
use Rattle.marks.proofs.equations.mark_beside.Goals as goal

pub returns-in-After : goal.returns-in-After
returns-in-After c = law.beside_after c.args.table.now.sizes.start c.args.table.now.sizes.cycle (marked (all_rows c.args.table.now.sizes) c.args.table.now.bytes.now c.args.part) c.args.row c.in-After.is c.row_after.ensures.0 c.mark_at.ensures

pub returns-then-row-eq0 : goal.returns-then-row-eq0
returns-then-row-eq0 c = law.beside_first c.args.table.now.sizes.start c.args.table.now.sizes.cycle (marked (all_rows c.args.table.now.sizes) c.args.table.now.bytes.now c.args.part) c.args.row c.in-Before.is c.if-row-eq0.true

pub returns-else-row-eq0 : goal.returns-else-row-eq0
returns-else-row-eq0 c = law.beside_before c.args.table.now.sizes.start c.args.table.now.sizes.cycle (marked (all_rows c.args.table.now.sizes) c.args.table.now.bytes.now c.args.part) c.args.row c.in-Before.is c.if-row-eq0.false c.mark_at-else-row-eq0.ensures
