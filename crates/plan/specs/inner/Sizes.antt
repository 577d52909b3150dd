-- The sizes that are read from a plan, and plans whose sizes fit. Assumes nothing.
use Rattle.std.specs.Prelude.{Option, Some, None, ℕ, ◌+◌, ◌*◌, ◌≤◌, ◌<◌, ◌≡◌, Bool, true, ◌&&◌, cond, List, leb, length}
use Rattle.std.specs.Int.Signed.{non_neg}
use Rattle.plan.specs.Layout.{channels, start_rows, cycle_rows, lead_rows, head_length, array_length, top_of, sizes_fit}
use Rattle.plan.specs.inner.Lifted.{passes}
use Rattle.plan.specs.declared.sizes.Sizes.{Sizes}

-- the sizes that stand in the bytes
abbrev pub sizes_in : List ℕ → Sizes
sizes_in plan = record { channels = channels plan; start = start_rows plan; cycle = cycle_rows plan; lead = lead_rows plan }

unfoldable pub sizes_read : List ℕ → Option Sizes
sizes_read plan = cond (sizes_fit plan) (Some (sizes_in plan)) None

-- V, C, W and L lie in their ranges
abbrev pub in_range : Sizes → Bool
in_range z = (leb 1 z.channels && leb z.channels 8) && (leb 1 z.cycle && (leb (z.start + z.cycle) 256 && leb z.lead 4))

-- W, the start rows and the cycle rows
abbrev pub all_rows : Sizes → ℕ
all_rows z = z.start + z.cycle

-- the rows that are stored, the lead-in rows before the others
abbrev pub all_stored : Sizes → ℕ
all_stored z = z.lead + all_rows z

-- how many are stored at most, of a lead-in of 4 and 256 others
abbrev pub most_stored : ℕ
most_stored = 260

-- the bytes of the largest array, of 8 channels on as many rows
abbrev pub most_array : ℕ
most_array = 8320

-- the end of the passes that the lookups reach
abbrev pub farthest : Sizes → ℕ
farthest z = z.start + passes * z.cycle

-- z are the plan's sizes, and they fit
pub record Fitting (plan : List ℕ) (z : Sizes) : Type 0 where
  pub v_is : channels plan ≡ z.channels
  pub p_is : start_rows plan ≡ z.start
  pub c_is : cycle_rows plan ≡ z.cycle
  pub l_is : lead_rows plan ≡ z.lead
  pub a_channel : 1 ≤ z.channels
  pub few_channels : z.channels ≤ 8
  pub a_cycle : 1 ≤ z.cycle
  pub few_rows : all_rows z ≤ 256
  pub few_lead : z.lead ≤ 4
  pub whole : length plan ≡ head_length z.channels + 2 * array_length z.channels (all_stored z)
  pub no_negative : (channel : ℕ) → channel < z.channels → non_neg (top_of plan channel) ≡ true
