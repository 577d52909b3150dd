-- `verdict::rows::compare` meets its contract. Assumes nothing.
use Rattle.verdict.proofs.Values.{tested_numbers, tested_one, tested_pinned}
use Rattle.verdict.proofs.rows.compare.Goals as goal

pub returns-in-Number-Number : goal.returns-in-Number-Number
returns-in-Number-Number c = tested_numbers _ _ _ _ c.in-Number-Number.is-0 _ c.in-Number-Number.is-1 c.compare_numbers.ensures

pub returns-in-Pinned-default : goal.returns-in-Pinned-default
returns-in-Pinned-default c = tested_pinned _ _ c.args.b c.in-Pinned-default.is-0 c.compare_pinned.ensures

pub returns-in_default : goal.returns-in_default
returns-in_default c = tested_one c.args.relation _ _ _ c.in_default.is-0 c.in_default.not-Number-1
