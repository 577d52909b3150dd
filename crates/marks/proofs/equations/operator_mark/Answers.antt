use Rattle.plan.specs.inner.Sizes.{all_rows}
use Rattle.table.specs.Layout.{marked}
use Rattle.marks.proofs.Stepped as law
use Rattle.marks.proofs.equations.operator_mark.Goals as goal

pub mark_beside-beside-requires : goal.mark_beside-beside-requires
mark_beside-beside-requires c = (law.watched_there c.args.table.now.parts c.args.operator c.requires.1 c.args.i c.requires.0 c.watched.ensures, c.requires.2)

pub returns : goal.returns
returns c = law.operator_marked c.args.table.now.sizes.start c.args.table.now.sizes.cycle (marked (all_rows c.args.table.now.sizes) c.args.table.now.bytes.now) c.args.operator c.args.i c.args.row c.beside_of-side.ensures c.watched.ensures c.mark_beside-beside.ensures c.step_on.ensures
