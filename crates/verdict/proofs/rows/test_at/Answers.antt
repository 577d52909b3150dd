-- `verdict::rows::test_at` meets its contract. Assumes nothing.
use mathlib.Core.Path.{◌∙◌}
use Rattle.verdict.proofs.Values.{test_is}
use Rattle.verdict.proofs.rows.test_at.Goals as goal

pub returns : goal.returns
returns c = c.compare.ensures ∙ test_is _ c.args.comparison _ _ _ c.seen_term.ensures c.seen_term-2.ensures
