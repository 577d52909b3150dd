-- `plan::tops::seen_under` meets its contract. Assumes nothing.
use Rattle.plan.specs.inner.Lifted.{seen_of}
use Rattle.plan.proofs.Pinned.{under_none, under_below, under_above}
use native.Mathlib.Omega.{arith}
use Rattle.plan.proofs.tops.seen_under.Goals as goal

pub returns-then-top-eq0 : goal.returns-then-top-eq0
unfolding seen_of
returns-then-top-eq0 c = (under_none c.args.top c.args.value (omega arith), c.requires.1)

pub returns-then-value-top : goal.returns-then-value-top
unfolding seen_of
returns-then-value-top c = (under_below c.args.top c.args.value (omega arith), c.requires.1)

pub returns : goal.returns
unfolding seen_of
returns c = (under_above c.args.top c.args.value (omega arith) (omega arith), tt)
