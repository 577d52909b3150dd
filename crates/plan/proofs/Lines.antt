-- On a cycle row a reading is a straight line in the pass. Assumes nothing.
use Prim.Native.Nat.{ℕ, ◌+◌, ◌*◌, ◌≤◌, ◌<◌}
use native.Mathlib.Omega.{arith}
use mathlib.Core.Path.{◌≡◌, sym, ap, ap₂, ◌∙◌}
use mathlib.Core.List.{List}
use lib.IntN.{ℤ, pos, ◌+ℤ◌, ◌*ℤ◌, +ℤ_idr}
use Rattle.cltlb.specs.Run.{under}
use Rattle.fields.proofs.Differences.{by_sub, sub_same, sub-mul, pos_sub, mul_plus, add_assoc}
use Rattle.plan.specs.Layout.{start_rows, cycle_rows, rows, reading_of, drift_of, top_of}
use Rattle.plan.specs.Positions.{row_of, pass_of}
use Rattle.plan.specs.Run.{reading_on, reading_at, run_of}
use Rattle.plan.proofs.Rows.{row_start, pass_start, row_later, pass_later}

-- no pass is no drift
pub no_passes : (z d : ℤ) → z +ℤ pos 0 *ℤ d ≡ z
no_passes z d = ap (λ (x : ℤ). z +ℤ x) (none d) ∙ +ℤ_idr z
  where
    none : (d : ℤ) → pos 0 *ℤ d ≡ pos 0
    none = by_sub (λ d. pos 0 *ℤ d ≡ pos 0) (λ a b. sub-mul 0 a b ∙ sub_same (0 * a) (0 * b) 0 0 (omega arith) ∙ sym (pos_sub 0))

-- on pass 0 a reading is its row's
pub reading_on_pass_0 : (plan : List ℕ) (channel t : ℕ) → t < rows plan → reading_at plan channel t ≡ reading_of plan t channel
unfolding reading_at reading_on rows
reading_on_pass_0 plan channel t h =
    ap₂ (λ (r p : ℕ). reading_of plan r channel +ℤ pos p *ℤ drift_of plan r channel) (row_start (start_rows plan) (cycle_rows plan) t h) (pass_start (start_rows plan) (cycle_rows plan) t h)
    ∙ no_passes (reading_of plan t channel) (drift_of plan t channel)

-- k passes more are k drifts more
pub reading_on_later : (plan : List ℕ) (channel row pass k : ℕ) → reading_on plan channel row (pass + k) ≡ reading_on plan channel row pass +ℤ pos k *ℤ drift_of plan row channel
unfolding reading_on
reading_on_later plan channel row pass k =
    ap (λ (z : ℤ). reading_of plan row channel +ℤ z) (mul_plus pass k (drift_of plan row channel))
    ∙ sym (add_assoc (reading_of plan row channel) (pos pass *ℤ drift_of plan row channel) (pos k *ℤ drift_of plan row channel))

module _ (plan : List ℕ) (some_cycle : 0 < cycle_rows plan) (channel t k : ℕ) (in_cycle : start_rows plan ≤ t) where
  -- k cycles later the reading has drifted k times
  pub reading_at_later : reading_at plan channel (t + k * cycle_rows plan) ≡ reading_at plan channel t +ℤ pos k *ℤ drift_of plan (row_of (start_rows plan) (cycle_rows plan) t) channel
  unfolding reading_at
  reading_at_later =
      ap₂ (reading_on plan channel)
      (row_later (start_rows plan) (cycle_rows plan) some_cycle t k in_cycle)
      (pass_later (start_rows plan) (cycle_rows plan) some_cycle t k in_cycle)
      ∙ reading_on_later plan channel (row_of (start_rows plan) (cycle_rows plan) t) (pass_of (start_rows plan) (cycle_rows plan) t) k

  pub run_later : run_of plan channel (pos (t + k * cycle_rows plan)) ≡ under (top_of plan channel) (reading_at plan channel t +ℤ pos k *ℤ drift_of plan (row_of (start_rows plan) (cycle_rows plan) t) channel)
  unfolding run_of
  run_later = ap (under (top_of plan channel)) reading_at_later
