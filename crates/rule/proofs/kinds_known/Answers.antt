-- `rule::kinds_known` meets its contract. Assumes nothing.
use mathlib.Core.Path.{refl}
use Rattle.rule.proofs.Taking.{kind_tested, known_next}
use Rattle.rule.proofs.kinds_known.Goals as goal

pub loop-n-preserved : goal.loop-n-preserved
loop-n-preserved c = known_next c.args.sheet.now c.loop-n.n c.loop-n.invariant (kind_tested c.args.sheet.now c.loop-n.n c.is_unknown.ensures c.shape_of.ensures refl)
