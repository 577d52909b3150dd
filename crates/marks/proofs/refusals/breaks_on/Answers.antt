use Rattle.marks.proofs.PartsChecked.{row_breaks}
use Rattle.marks.proofs.refusals.breaks_on.Goals as goal

pub returns : goal.returns
returns c = row_breaks c.args.plan.now.bytes.now c.args.table.now c.requires.0.fits c.args.i c.args.view c.args.row c.mark_at.ensures c.expected_mark.ensures
