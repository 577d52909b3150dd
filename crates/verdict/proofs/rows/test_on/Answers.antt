-- `verdict::rows::test_on` meets its contract. Assumes nothing.
use mathlib.Core.Path.{◌∙◌}
use Rattle.verdict.proofs.Values.{test_is}
use Rattle.verdict.proofs.rows.test_on.Goals as goal

pub returns : goal.returns
returns c = c.compare.ensures ∙ test_is _ c.args.comparison _ _ _ c.seen_on.ensures c.seen_on-2.ensures
