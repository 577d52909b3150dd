use borrow.Author.Tests.{lt-ltb, le-ltb}
use Rattle.live.specs.State.{older}
use native.Mathlib.Omega.{arith}
use Rattle.live.proofs.one_older.Goals as goal

-- src/lib.rt:69:1
pub returns-then-age-lt4 : goal.returns-then-age-lt4
unfolding older
returns-then-age-lt4 c = (simp (lt-ltb _ _ c.if-age-lt4.true), omega arith)

-- src/lib.rt:69:1
pub returns-else-age-lt4 : goal.returns-else-age-lt4
unfolding older
returns-else-age-lt4 c = (simp (le-ltb _ _ c.if-age-lt4.false), omega arith)
