use Rattle.std.proofs.Common.{rules}
use Rattle.marks.specs.Parts.{names, is_cycle_row}
use Rattle.marks.proofs.witness.names_row.Goals as goal

pub returns-then-w-rows : goal.returns-then-w-rows
unfolding names is_cycle_row
returns-then-w-rows c = search rules

pub returns-else-w-rows : goal.returns-else-w-rows
unfolding names is_cycle_row
returns-else-w-rows c = search rules
