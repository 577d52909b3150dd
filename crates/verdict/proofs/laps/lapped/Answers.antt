-- `verdict::laps::lapped` meets its contract. Assumes nothing.
use mathlib.Core.Path.{refl}
use native.Mathlib.Omega.{arith}
use native.Mathlib.Nat.{mod-lt}
use Prim.Native.Nat.{◌+◌, ◌-◌, ◌%◌}
use Rattle.verdict.proofs.Walks.{laps_right, laps_fewer}
use Rattle.verdict.proofs.laps.lapped.Goals as goal

pub returns : goal.returns
returns c =
    let fewer = laps_fewer c.args.w.lap c.args.w.at c.args.w.step c.args.w.passes c.args.len c.requires.0.at c.requires.1 c.requires.2 c.requires.3 c.requires.0.step in (
      record { at = mod-lt (c.args.w.at + (c.args.w.step - c.args.w.lap % c.args.w.step)) (omega arith); step = omega arith; lap = omega arith; passes = omega arith },
      refl,
      laps_right c.args.w.lap c.args.w.at c.args.w.step c.args.w.passes c.args.len c.requires.0.at c.requires.1 c.requires.2 c.requires.3,
    )
