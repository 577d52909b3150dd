-- `lanes::columns::drift` meets its contract. Assumes nothing.
use native.Mathlib.Omega.{arith}
use Rattle.lanes.proofs.Reaching.{in_reach}
use Rattle.lanes.proofs.columns.drift.Goals as goal

pub overflow_add-from : goal.overflow_add-from
overflow_add-from c = omega (arith, in_reach _ c.args.column _ _ c.requires.0 c.in-Lane.is, c.requires.1)

pub entry_at-requires : goal.entry_at-requires
entry_at-requires c = in_reach _ c.args.column _ _ c.requires.0 c.in-Lane.is
