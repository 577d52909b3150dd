-- `verdict::laps::gentle` meets its contract. Assumes nothing.
use mathlib.Core.Path.{refl}
use native.Mathlib.Omega.{arith}
use Rattle.verdict.proofs.Walks.{mirrored}
use Rattle.verdict.proofs.laps.gentle.Goals as goal

pub returns-then-w : goal.returns-then-w
returns-then-w c = (omega arith, omega arith, omega arith, refl, refl, mirrored c.args.w.lap c.args.w.at c.args.w.step c.args.w.passes c.args.len c.requires.0.at c.requires.0.step c.requires.2 c.requires.1)
