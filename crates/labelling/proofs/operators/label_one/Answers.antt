use Rattle.labelling.proofs.Sweeping.{not_done, next_done, yesterday_done, weak_done}
use Rattle.labelling.proofs.operators.label_one.Goals as goal

pub returns-in-Not : goal.returns-in-Not
returns-in-Not c = not_done _ _ c.requires.1 c.args.table.now _ _ c.place-own.ensures _ c.place-other.ensures c.fill_copied.ensures c.in-Not.is

pub returns-in-Next : goal.returns-in-Next
returns-in-Next c = next_done _ _ c.requires.1 c.args.table.now _ _ c.place-own.ensures _ c.place-other.ensures c.fill_beside.ensures c.in-Next.is

pub returns-in-Yesterday : goal.returns-in-Yesterday
returns-in-Yesterday c = yesterday_done _ _ c.requires.1 c.args.table.now _ _ c.place-own.ensures _ c.place-other.ensures c.fill_beside-in-Yesterday.ensures c.in-Yesterday.is

pub returns-in-WeakYesterday : goal.returns-in-WeakYesterday
returns-in-WeakYesterday c = weak_done _ _ c.requires.1 c.args.table.now _ _ c.place-own.ensures _ c.place-other.ensures c.fill_beside-in-WeakYesterday.ensures c.in-WeakYesterday.is
