-- What the plans of the examples read as: their sizes and tops, and their runs at some positions. Assumes nothing.
use Rattle.std.specs.Prelude.{ℕ, zero, suc, ◌≡◌, List, [], ◌∷◌, ℤ, pos, neg_ℤ}
use Rattle.cltlb.specs.Run.{Seen, number, pinned, before_run}
use Rattle.plan.specs.Layout.{channels, start_rows, cycle_rows, lead_rows, top_of}
use Rattle.plan.specs.Run.{run_of}
use Rattle.worked_examples.specs.Table.{plan_a, plan_b, plan_e8_lead, plan_e9, plan_e10}
use Rattle.worked_examples.specs.MorePlans.{plan_three, plan_week, plan_leap, plan_start_drift, plan_no_cycle, plan_long, plan_lead, plan_lead_two, plan_lead_drift, plan_behind_lead_drift, plan_high, plan_three_top, plan_top, plan_top_clock, plan_top_b, plan_top_e10, plan_top_high, plan_course, plan_top_negative, plan_top_lowest}

-- the tops of n channels from channel k on
unfoldable pub tops_from : List ℕ → ℕ → ℕ → List ℤ
tops_from plan k zero = []
tops_from plan k (suc n) = top_of plan k ∷ tops_from plan (suc k) n

-- a plan with its V, P, C and L, and its tops
pub data PlanRow : Type 0 where
  sized : (plan : List ℕ) (v p c l : ℕ) (tops : List ℤ) → PlanRow

unfoldable pub SizedAs : PlanRow → Type 0
SizedAs (sized plan v p c l tops) =
    (channels plan ≡ v) × (start_rows plan ≡ p) × (cycle_rows plan ≡ c) × (lead_rows plan ≡ l) × (tops_from plan 0 (channels plan) ≡ tops)

unfoldable pub plans : List PlanRow
plans =
    sized plan_a 1 1 2 0 (pos 0 ∷ [])
    ∷ sized plan_b 1 0 1 0 (pos 0 ∷ [])
    ∷ sized plan_e8_lead 1 0 1 1 (pos 0 ∷ [])
    ∷ sized plan_e9 1 0 1 0 (pos 0 ∷ [])
    ∷ sized plan_e10 1 0 1 0 (pos 0 ∷ [])
    ∷ sized plan_three 3 2 3 0 (pos 0 ∷ pos 0 ∷ pos 0 ∷ [])
    ∷ sized plan_week 1 1 3 0 (pos 0 ∷ [])
    ∷ sized plan_leap 1 0 1 0 (pos 0 ∷ [])
    ∷ sized plan_start_drift 1 3 1 0 (pos 0 ∷ [])
    ∷ sized plan_no_cycle 1 1 0 0 (pos 0 ∷ [])
    ∷ sized plan_long 1 0 1 0 (pos 0 ∷ [])
    ∷ sized plan_lead 1 1 1 2 (pos 0 ∷ [])
    ∷ sized plan_lead_two 2 0 1 2 (pos 0 ∷ pos 0 ∷ [])
    ∷ sized plan_lead_drift 1 2 1 2 (pos 0 ∷ [])
    ∷ sized plan_behind_lead_drift 1 2 1 2 (pos 0 ∷ [])
    ∷ sized plan_high 1 0 1 0 (pos 0 ∷ [])
    ∷ sized plan_three_top 3 2 3 0 (pos 0 ∷ pos 0 ∷ pos 5 ∷ [])
    ∷ sized plan_top 1 1 5 1 (pos 9 ∷ [])
    ∷ sized plan_top_clock 1 0 3 0 (pos 9180 ∷ [])
    ∷ sized plan_top_b 1 0 1 0 (pos 4095 ∷ [])
    ∷ sized plan_top_e10 1 0 1 0 (pos 5 ∷ [])
    ∷ sized plan_top_high 1 0 1 0 (pos 2147483647 ∷ [])
    ∷ sized plan_course 2 1 3 0 (pos 4095 ∷ pos 0 ∷ [])
    ∷ sized plan_top_negative 1 0 1 0 (neg_ℤ (pos 1) ∷ [])
    ∷ sized plan_top_lowest 2 1 1 0 (pos 0 ∷ neg_ℤ (pos 2147483648) ∷ [])
    ∷ []

-- what is seen of n channels from channel k on, at a position
unfoldable pub seen_from : List ℕ → ℤ → ℕ → ℕ → List Seen
seen_from plan position k zero = []
seen_from plan position k (suc n) = run_of plan k position ∷ seen_from plan position (suc k) n

-- a plan's run at a position: what is seen of each channel there, in the order of the channels
pub data Sight : Type 0 where
  sees : (plan : List ℕ) (position : ℤ) (seen : List Seen) → Sight

unfoldable pub SeesAs : Sight → Type 0
SeesAs (sees plan position seen) = seen_from plan position 0 (channels plan) ≡ seen

-- plan_three: before the run, the start rows, the cycle rows on passes 0 and 1, two of them on pass 2, and one on pass 100. plan_week:
-- the start row, and the cycle rows on passes 0 and 1. Then three plans: before the lead-in, in it, and behind it. plan_top, whose top is 9:
-- before the lead-in, in it, the start row, each cycle row, row 3 on passes 1 to 4, row 4 on passes 1 to 3, and row 5 on passes 1002 and
-- 1003. plan_three_top, of whose channels z alone has a top. plan_top_high: at its top and above it, where a reading takes more than 32 bits.
unfoldable pub sights : List Sight
sights =
    sees plan_a (pos 0) (number (pos 10) ∷ [])
    ∷ sees plan_a (pos 1) (number (pos 20) ∷ [])
    ∷ sees plan_a (pos 2) (number (pos 30) ∷ [])
    ∷ sees plan_a (pos 3) (number (pos 20) ∷ [])
    ∷ sees plan_b (pos 0) (number (pos 4094) ∷ [])
    ∷ sees plan_b (pos 2) (number (pos 4096) ∷ [])
    ∷ sees plan_e9 (pos 3) (number (pos 9) ∷ [])
    ∷ sees plan_e10 (pos 7) (number (pos 5) ∷ [])
    ∷ sees plan_three (neg_ℤ (pos 4)) (before_run ∷ before_run ∷ before_run ∷ [])
    ∷ sees plan_three (neg_ℤ (pos 1)) (before_run ∷ before_run ∷ before_run ∷ [])
    ∷ sees plan_three (pos 0) (number (neg_ℤ (pos 2)) ∷ number (neg_ℤ (pos 1)) ∷ number (neg_ℤ (pos 3)) ∷ [])
    ∷ sees plan_three (pos 1) (number (pos 7) ∷ number (neg_ℤ (pos 7)) ∷ number (pos 6) ∷ [])
    ∷ sees plan_three (pos 2) (number (neg_ℤ (pos 70000)) ∷ number (neg_ℤ (pos 1)) ∷ number (neg_ℤ (pos 4)) ∷ [])
    ∷ sees plan_three (pos 3) (number (pos 300) ∷ number (pos 299) ∷ number (neg_ℤ (pos 3)) ∷ [])
    ∷ sees plan_three (pos 4) (number (pos 2) ∷ number (pos 3) ∷ number (pos 10) ∷ [])
    ∷ sees plan_three (pos 5) (number (neg_ℤ (pos 70256)) ∷ number (neg_ℤ (pos 257)) ∷ number (neg_ℤ (pos 9)) ∷ [])
    ∷ sees plan_three (pos 6) (number (pos 301) ∷ number (pos 299) ∷ number (neg_ℤ (pos 3)) ∷ [])
    ∷ sees plan_three (pos 7) (number (pos 102) ∷ number (pos 103) ∷ number (pos 12) ∷ [])
    ∷ sees plan_three (pos 8) (number (neg_ℤ (pos 70512)) ∷ number (neg_ℤ (pos 513)) ∷ number (neg_ℤ (pos 14)) ∷ [])
    ∷ sees plan_three (pos 10) (number (pos 202) ∷ number (pos 203) ∷ number (pos 14) ∷ [])
    ∷ sees plan_three (pos 302) (number (neg_ℤ (pos 95600)) ∷ number (neg_ℤ (pos 25601)) ∷ number (neg_ℤ (pos 504)) ∷ [])
    ∷ sees plan_week (pos 0) (number (neg_ℤ (pos 1)) ∷ [])
    ∷ sees plan_week (pos 1) (number (pos 540) ∷ [])
    ∷ sees plan_week (pos 2) (number (neg_ℤ (pos 10020)) ∷ [])
    ∷ sees plan_week (pos 3) (number (pos 30) ∷ [])
    ∷ sees plan_week (pos 4) (number (pos 1980) ∷ [])
    ∷ sees plan_week (pos 5) (number (pos 60) ∷ [])
    ∷ sees plan_week (pos 6) (number (neg_ℤ (pos 30)) ∷ [])
    ∷ sees plan_leap (pos 2) (number (pos 1440000540) ∷ [])
    ∷ sees plan_e8_lead (neg_ℤ (pos 2)) (before_run ∷ [])
    ∷ sees plan_e8_lead (neg_ℤ (pos 1)) (number (pos 4093) ∷ [])
    ∷ sees plan_e8_lead (pos 2) (number (pos 4096) ∷ [])
    ∷ sees plan_lead (neg_ℤ (pos 3)) (before_run ∷ [])
    ∷ sees plan_lead (neg_ℤ (pos 2)) (number (pos 7) ∷ [])
    ∷ sees plan_lead (neg_ℤ (pos 1)) (number (pos 9) ∷ [])
    ∷ sees plan_lead (pos 0) (number (pos 30) ∷ [])
    ∷ sees plan_lead_two (neg_ℤ (pos 3)) (before_run ∷ before_run ∷ [])
    ∷ sees plan_lead_two (neg_ℤ (pos 2)) (number (pos 1) ∷ number (pos 2) ∷ [])
    ∷ sees plan_lead_two (neg_ℤ (pos 1)) (number (pos 3) ∷ number (pos 4) ∷ [])
    ∷ sees plan_lead_two (pos 0) (number (pos 5) ∷ number (pos 6) ∷ [])
    ∷ sees plan_lead_two (pos 10) (number (pos 15) ∷ number (neg_ℤ (pos 4)) ∷ [])
    ∷ sees plan_top (neg_ℤ (pos 2)) (before_run ∷ [])
    ∷ sees plan_top (neg_ℤ (pos 1)) (pinned ∷ [])
    ∷ sees plan_top (pos 0) (number (pos 8) ∷ [])
    ∷ sees plan_top (pos 1) (pinned ∷ [])
    ∷ sees plan_top (pos 2) (number (pos 8) ∷ [])
    ∷ sees plan_top (pos 3) (number (pos 0) ∷ [])
    ∷ sees plan_top (pos 4) (pinned ∷ [])
    ∷ sees plan_top (pos 5) (number (neg_ℤ (pos 3000)) ∷ [])
    ∷ sees plan_top (pos 8) (number (pos 3) ∷ [])
    ∷ sees plan_top (pos 13) (number (pos 6) ∷ [])
    ∷ sees plan_top (pos 18) (pinned ∷ [])
    ∷ sees plan_top (pos 23) (pinned ∷ [])
    ∷ sees plan_top (pos 9) (pinned ∷ [])
    ∷ sees plan_top (pos 14) (number (pos 6) ∷ [])
    ∷ sees plan_top (pos 19) (number (pos 3) ∷ [])
    ∷ sees plan_top (pos 5015) (number (pos 6) ∷ [])
    ∷ sees plan_top (pos 5020) (pinned ∷ [])
    ∷ sees plan_three_top (pos 1) (number (pos 7) ∷ number (neg_ℤ (pos 7)) ∷ pinned ∷ [])
    ∷ sees plan_three_top (pos 3) (number (pos 300) ∷ number (pos 299) ∷ number (neg_ℤ (pos 3)) ∷ [])
    ∷ sees plan_top_high (pos 0) (number (pos 2147483646) ∷ [])
    ∷ sees plan_top_high (pos 1) (pinned ∷ [])
    ∷ sees plan_top_high (pos 2) (pinned ∷ [])
    ∷ sees plan_high (pos 1) (number (pos 2147483648) ∷ [])
    ∷ []
