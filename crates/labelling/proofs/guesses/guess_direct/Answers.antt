-- `labelling::guesses::guess_direct` meets its contract. Assumes nothing.
use Rattle.lanes.proofs.Stretches as law
use Rattle.labelling.proofs.guesses.guess_direct.Goals as goal

pub column_of-x-requires : goal.column_of-x-requires
column_of-x-requires c = law.left_column c.requires.0 c.if-to-from.false

pub column_of-y-requires : goal.column_of-y-requires
column_of-y-requires c = law.right_column c.requires.0 c.if-to-from.false

pub guess_values-requires : goal.guess_values-requires
guess_values-requires c = (law.in_lanes c.requires.0 c.if-to-from.false c.column_of-x.result c.column_of-y.result c.column_of-x.ensures c.column_of-y.ensures c.requires.1, law.in_marks c.requires.0 c.if-to-from.false _ c.place-m.ensures, (law.small_tops c.requires.0 c.if-to-from.false c.column_of-x.result c.column_of-y.result c.column_of-x.ensures c.column_of-y.ensures).0, (law.small_tops c.requires.0 c.if-to-from.false c.column_of-x.result c.column_of-y.result c.column_of-x.ensures c.column_of-y.ensures).1)

pub guess_seen-requires : goal.guess_seen-requires
guess_seen-requires c = (law.in_lanes c.requires.0 c.if-to-from.false c.column_of-x.result c.column_of-y.result c.column_of-x.ensures c.column_of-y.ensures c.requires.1, law.in_marks c.requires.0 c.if-to-from.false _ c.place-m.ensures, (law.small_tops c.requires.0 c.if-to-from.false c.column_of-x.result c.column_of-y.result c.column_of-x.ensures c.column_of-y.ensures).0, (law.small_tops c.requires.0 c.if-to-from.false c.column_of-x.result c.column_of-y.result c.column_of-x.ensures c.column_of-y.ensures).1)
