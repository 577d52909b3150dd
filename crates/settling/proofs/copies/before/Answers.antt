-- `settling::copies::before` meets its contract. Assumes nothing.
use Rattle.words.specs.inner.Words.{mark_at}
use Rattle.settling.proofs.Copying.{moved_first, moved_later}
use Rattle.settling.proofs.copies.before.Goals as goal

pub returns-then-row-eq0 : goal.returns-then-row-eq0
returns-then-row-eq0 c = moved_first c.args.first (mark_at c.args.scratch.now c.args.a) c.args.row c.if-row-eq0.true

pub returns-else-row-eq0 : goal.returns-else-row-eq0
returns-else-row-eq0 c = moved_later c.args.first (mark_at c.args.scratch.now c.args.a) c.args.row c.if-row-eq0.false c.mark_at.ensures
