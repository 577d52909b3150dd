-- `plan::tops::tops_fit` meets its contract. Assumes nothing.
use mathlib.Core.Path.{refl}
use Rattle.std.proofs.Common.{rules}
use Rattle.plan.specs.Layout.{negative_top, tops_fit}
use Rattle.plan.proofs.Pinned.{top_seen}
use Rattle.plan.proofs.Searches.{all_found}
use Rattle.plan.proofs.tops.tops_fit.Goals as goal

pub returns : goal.returns
unfolding tops_fit
returns c = all_found (negative_top c.args.tops.now) c.args.v _ _ _ refl c.all.ensures.ran (λ x b q called. search (rules, top_seen))
