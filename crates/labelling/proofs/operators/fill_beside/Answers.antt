use Rattle.labelling.proofs.Sweeping.{after_done, before_done}
use Rattle.labelling.proofs.operators.fill_beside.Goals as goal

pub returns-in-After : goal.returns-in-After
returns-in-After c = after_done _ _ c.requires.0 c.args.table.now _ _ _ c.args.other c.requires.3 c.fill_copied.ensures c.fill_copied-in-After.ensures c.in-After.is

pub returns-in-Before : goal.returns-in-Before
returns-in-Before c = before_done _ _ c.requires.0 c.args.table.now _ _ _ c.args.other c.requires.3 c.put_mark.ensures c.fill_copied-in-Before.ensures c.in-Before.is
