-- `lanes::rows::stretch_of` meets its contract. Assumes nothing.
use mathlib.Core.Path.{refl}
use Rattle.lanes.proofs.Stretches as law
use Rattle.lanes.proofs.rows.stretch_of.Goals as goal

pub column_of-x-requires : goal.column_of-x-requires
column_of-x-requires c = law.left_column c.requires.0 c.requires.2

pub column_of-y-requires : goal.column_of-y-requires
column_of-y-requires c = law.right_column c.requires.0 c.requires.2

pub invariant_of-result : goal.invariant_of-result
invariant_of-result c = record {
  in_values = law.in_lanes c.requires.0 c.requires.2 c.column_of-x.result c.column_of-y.result c.column_of-x.ensures c.column_of-y.ensures c.requires.1;
  in_marks = law.in_marks c.requires.0 c.requires.2 _ c.place-m.ensures;
}

pub returns : goal.returns
returns c = record {
  values_are = refl;
  table_is = refl;
  left_stands = c.column_of-x.ensures.0;
  left_top = c.column_of-x.ensures.1;
  right_stands = c.column_of-y.ensures.0;
  right_top = c.column_of-y.ensures.1;
  m_is = c.place-m.ensures;
  count_is = refl;
}
