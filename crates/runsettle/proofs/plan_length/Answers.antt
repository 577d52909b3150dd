use Rattle.std.proofs.Common.{ℕ, ◌+◌, ◌*◌, ap₂}
use Rattle.plan.specs.Layout.{channels, start_rows, cycle_rows, lead_rows}
use Rattle.runsettle.proofs.plan_length.Goals as goal

pub returns : goal.returns
unfolding channels start_rows cycle_rows lead_rows
returns c =
    ap₂ (λ (v w : ℕ). 8 + 4 * v + 8 * (v * w)) c.u16_at-v.ensures.0
    (ap₂ ◌+◌ c.u16_at-l.ensures.0 (ap₂ ◌+◌ c.u16_at-p.ensures.0 c.u16_at-c.ensures.0))
