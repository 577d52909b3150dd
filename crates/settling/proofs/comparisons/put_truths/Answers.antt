-- `settling::comparisons::put_truths` meets its contract. Assumes nothing.
use Rattle.std.proofs.Common.{rules}
use Rattle.settling.proofs.comparisons.put_truths.Goals as goal

pub returns : goal.returns
returns c = c.put_each.ensures _ (λ s row x same l h. search rules)
