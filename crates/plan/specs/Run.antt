-- The run that a plan stands for: ultimately periodic but for the drifts, with the lead-in as its history. Assumes nothing.
use Rattle.std.specs.Prelude.{ℕ, suc, ◌-◌, cond, List, leb, ℤ, pos, negsuc, ◌+ℤ◌, ◌*ℤ◌}
use Rattle.cltlb.specs.Run.{Seen, before_run, under, Run}
use Rattle.plan.specs.Layout.{start_rows, cycle_rows, lead_rows, top_of, stored_reading, reading_of, drift_of}
use Rattle.plan.specs.Positions.{row_of, pass_of}

-- the row's reading + pass × drift, a whole number without limit
unfoldable pub reading_on : List ℕ → ℕ → ℕ → ℕ → ℤ
reading_on plan channel row pass = reading_of plan row channel +ℤ pos pass *ℤ drift_of plan row channel

-- the reading at a position: on its row and pass
unfoldable pub reading_at : List ℕ → ℕ → ℕ → ℤ
reading_at plan channel t =
    reading_on plan channel (row_of (start_rows plan) (cycle_rows plan) t) (pass_of (start_rows plan) (cycle_rows plan) t)

-- The lead-in rows lie at positions -L to -1: `back` positions before position 0 is the one stored `back` rows before row 0. Further
-- back nothing is seen.
unfoldable pub lead_at : List ℕ → ℕ → ℕ → Seen
lead_at plan channel back = cond (leb back (lead_rows plan)) (under (top_of plan channel) (stored_reading plan (lead_rows plan - back) channel)) before_run

-- what is seen of a channel at a position: the reading there under the channel's top, of the lead-in where the position is below 0;
-- negsuc n is -(n + 1)
unfoldable pub run_of : List ℕ → Run
run_of plan channel (pos t) = under (top_of plan channel) (reading_at plan channel t)
run_of plan channel (negsuc n) = lead_at plan channel (suc n)
