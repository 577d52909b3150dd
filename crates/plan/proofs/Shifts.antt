-- Positions given without a sign: the position `ahead` - 4, and the codes of shifts, which are the shifts + 4.
-- Assumes nothing.
use Prim.Native.Nat.{ℕ, suc, ◌+◌, ◌-◌, ◌≤◌, ◌<◌}
use native.Mathlib.Omega.{arith}
use mathlib.Core.Path.{◌≡◌, refl, sym, ap, ap₂, ◌∙◌}
use mathlib.Core.List.{List}
use mathlib.Core.Logic.{by_cases}
use native.Mathlib.Decide.{dec_lt}
use borrow.Author.Tests.{le-leb, lt-leb}
use lib.IntN.{ℤ, pos, sub_ℕ, ◌+ℤ◌}
use Rattle.cltlb.specs.Run.{before_run, under}
use Rattle.fields.proofs.Differences.{sub_pos, sub_neg, sub_same, sub-add, pos_sub}
use Rattle.plan.specs.Layout.{lead_rows, rows, top_of, stored_reading, reading_of}
use Rattle.plan.specs.Run.{reading_at, lead_at, run_of}
use Rattle.plan.proofs.Lines.{reading_on_pass_0}

-- position t plus the shift that a code stands for
pub shifted : (t code : ℕ) (shift : ℤ) → sub_ℕ code 4 ≡ shift → pos t +ℤ shift ≡ sub_ℕ (t + code) 4
shifted t code shift e =
    ap₂ ◌+ℤ◌ (pos_sub t) (sym e)
    ∙ sub-add t 0 code 4
    ∙ sub_same (t + code) (0 + 4) (t + code) 4 (omega arith)

-- what is seen there
module _ (plan : List ℕ) (channel ahead : ℕ) where
  -- before the lead-in,
  pub before_run_lem : lead_rows plan + ahead < 4 → before_run ≡ run_of plan channel (sub_ℕ ahead 4)
  unfolding run_of lead_at
  before_run_lem h = rw (sub_neg ahead 4 (omega arith)) (simp (lt-leb (suc (4 - suc ahead)) (lead_rows plan) (omega arith)))

  -- in it,
  pub in_lead : ahead < 4 → 4 ≤ lead_rows plan + ahead → under (top_of plan channel) (stored_reading plan (lead_rows plan + ahead - 4) channel) ≡ run_of plan channel (sub_ℕ ahead 4)
  unfolding run_of lead_at
  in_lead h l =
      let place : lead_rows plan + ahead - 4 ≡ lead_rows plan - suc (4 - suc ahead) = omega arith in
      rw (sub_neg ahead 4 h, place) (simp (le-leb (suc (4 - suc ahead)) (lead_rows plan) (omega arith)))

  -- and behind it

  pub in_run : 4 ≤ ahead → under (top_of plan channel) (reading_at plan channel (ahead - 4)) ≡ run_of plan channel (sub_ℕ ahead 4)
  unfolding run_of
  in_run h = rw (sub_pos ahead 4 h) refl

  -- In the lead-in and on pass 0 it is the reading that is stored there, under the top.
  pub as_stored : 4 ≤ lead_rows plan + ahead → ahead < rows plan + 4 → run_of plan channel (sub_ℕ ahead 4) ≡ under (top_of plan channel) (stored_reading plan (lead_rows plan + ahead - 4) channel)
  unfolding reading_of
  as_stored low high = by_cases (dec_lt ahead 4) (λ h. sym (in_lead h low)) (λ h. sym (in_run (omega arith)) ∙ ap (under (top_of plan channel)) (behind (omega arith)))
    where
      behind : 4 ≤ ahead → reading_at plan channel (ahead - 4) ≡ stored_reading plan (lead_rows plan + ahead - 4) channel
      behind h = reading_on_pass_0 plan channel (ahead - 4) (omega arith) ∙ ap (λ (k : ℕ). stored_reading plan k channel) (omega arith)
