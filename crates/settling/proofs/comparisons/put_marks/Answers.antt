-- `settling::comparisons::put_marks` meets its contract. Assumes nothing.
use mathlib.Core.Path.{sym}
use native.Mathlib.Omega.{arith}
use Rattle.settling.proofs.Repeats.{marks_repeat}
use Rattle.settling.proofs.Searching.{passed}
use mathlib.Core.Path.{ap}
use mathlib.Core.Bool.{not}
use Rattle.settling.proofs.comparisons.put_marks.Goals as goal

pub returns : goal.returns
returns c = marks_repeat c.args.plan.now.bytes.now c.args.plan.now.fits c.args.comparison c.requires.0 (sym (passed c.steady.ensures (ap not c.if-not-steady.false))) c.put_truths-2.ensures c.repeat_marks.ensures (omega (arith, c.requires.4))
