-- `settling::copies::try_before` meets its contract. Assumes nothing.
use native.Mathlib.Omega.{arith}
use Rattle.settling.proofs.Copying.{before_marked, before_closed}
use mathlib.Core.Path.{refl}
use Rattle.settling.proofs.copies.try_before.Goals as goal

pub returns : goal.returns
returns c = before_closed c.args.scratch.now c.args.a c.args.laid.start c.args.first _ c.before-2.ensures c.mark_at.ensures refl c.if-before-mark_at.false (before_marked c.args.scratch.now c.args.a c.args.laid.start c.args.first (omega (arith, c.requires.3)) c.mark_before.ensures c.put_mark.ensures)
