-- `verdict::terms::landed_line` meets its contract. Assumes nothing.
use native.Mathlib.Omega.{arith}
use Rattle.verdict.proofs.Values.{reading_fits}
use Rattle.verdict.proofs.terms.landed_line.Goals as goal

pub channel_line-requires : goal.channel_line-requires
channel_line-requires c = ((reading_fits _ _ _ c.in-Reading.is _ c.requires.0).0, c.requires.1.0, omega arith)
