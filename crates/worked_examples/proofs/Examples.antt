-- THE WORKED EXAMPLES E1 TO E10: every row of the table says a fact of the published truth or of the equations, E10 for every witness.
-- Assumes nothing.
use Prim.Native.Nat.{ℕ}
use Rattle.worked_examples.specs.Questions.{Says}
use Rattle.worked_examples.specs.Rows.{All}
use Rattle.worked_examples.specs.Table.{examples}
use Rattle.worked_examples.proofs.Said.{all_right}
use Rattle.worked_examples.proofs.Answers.{answers}

pub all_said : (lo hi : ℕ) → All Says (examples lo hi)
all_said lo hi = all_right (examples lo hi) (answers lo hi)
