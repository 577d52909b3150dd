use Rattle.std.proofs.Common.{rules}
use Rattle.marks.specs.Parts.{witness_two}
use Rattle.marks.proofs.witness.two_witness.Goals as goal

pub returns-in-Until : goal.returns-in-Until
unfolding witness_two
returns-in-Until c = search rules

pub returns-in-Release : goal.returns-in-Release
unfolding witness_two
returns-in-Release c = search rules

pub returns-in_default : goal.returns-in_default
unfolding witness_two
returns-in_default c = search rules
