-- `verdict::rows::compare_numbers` meets its contract. Assumes nothing.
use Rattle.verdict.proofs.Values.{number_within}
use Rattle.verdict.proofs.rows.compare_numbers.Goals as goal

pub returns-in-Within : goal.returns-in-Within
returns-in-Within c = rw c.in-Within.is (number_within c.args.m c.args.n _ _ c.minutes_after.ensures)
