-- Walks around a lap, a fixed step on each pass. Assumes nothing.
use Rattle.std.specs.Prelude.{ℕ, ◌+◌, ◌*◌, ◌≤◌, ◌<◌}
use Rattle.cltlb.specs.Week.{week}
use Rattle.verdict.specs.declared.laps.Walk.{Walk}

-- On one of its passes the walk, which is at `at` on pass 0 and goes on by `step` on each, is less than `len` behind the beginning of a
-- lap.
pub record Enters (w : Walk) (len : ℕ) : Type 0 where
  pub pass : ℕ
  pub laps : ℕ
  pub early : pass < w.passes
  pub reached : laps * w.lap ≤ w.at + pass * w.step
  pub short : w.at + pass * w.step < laps * w.lap + len

-- a walk that begins in its lap, with no more passes and no longer a lap than the week has minutes
pub record Sized (w : Walk) : Type 0 where
  pub at : w.at < w.lap
  pub step : w.step ≤ w.lap
  pub lap : w.lap ≤ week
  pub passes : w.passes ≤ week
