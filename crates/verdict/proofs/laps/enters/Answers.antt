-- `verdict::laps::enters` meets its contract. Assumes nothing.
use mathlib.Core.Logic.Iff
use Prim.Native.Nat.{◌+◌, ◌-◌, ◌*◌}
use native.Mathlib.Omega.{arith}
use Rattle.verdict.proofs.Walks.{straight, test_le}
use Rattle.verdict.proofs.laps.enters.Goals as goal

pub returns-then-g-len : goal.returns-then-g-len
returns-then-g-len c = Iff.trans (test_le c.gentle-g.result.lap (c.gentle-g.result.at + (c.gentle-g.result.passes - 1) * c.gentle-g.result.step))
    (Iff.trans (straight c.gentle-g.result.lap c.gentle-g.result.at c.gentle-g.result.step c.gentle-g.result.passes c.args.len c.gentle-g.ensures.0.at c.gentle-g.ensures.1 c.if-g-len.true (omega arith))
    (Iff.trans c.gentle-g.ensures.5 c.loop-w.invariant.1))
