-- `settling::marking::put_each` meets its contract. Assumes nothing.
use native.Mathlib.Omega.{arith}
use mathlib.Core.Path.{◌∙◌}
use Rattle.words.proofs.Marking.{upward_next}
use Rattle.settling.proofs.marking.put_each.Goals as goal

pub loop-row-preserved : goal.loop-row-preserved
loop-row-preserved g c =
    let kept = c.loop-row.invariant in (
      c.put_mark.ensures.long ∙ kept.0,
      λ a l row. c.put_mark.ensures.lower a l row ∙ kept.1 a l row,
      λ given same. (upward_next c.args.scratch.now c.args.i given (omega arith, kept.2 given same) c.loop-row-test.true (same _ _ _ kept.1 c.loop-row-test.true c.mark-it.ensures) c.put_mark.ensures).1,
    )
