-- A plan at the front of a buffer: the sizes that are read there are the plan's, and so is the length that follows from them.
-- Assumes nothing.
use Rattle.refusal.specs.Outcome.{unrefused}
use Prim.Native.Nat.{ℕ, ◌+◌, ◌*◌, ◌≤◌, ◌<◌}
use native.Mathlib.Nat.{mul-le-mul}
use native.Mathlib.Omega.{arith}
use mathlib.Core.Path.{◌≡◌, sym, ap, ap₂, ◌∙◌}
use mathlib.Core.List.{List, ◌++◌}
use lib.ListN.{length, length-append, get_or-append}
use Rattle.fields.specs.LittleEndian.{number_at}
use Rattle.fields.proofs.Widths.{number2}
use Rattle.plan.specs.Layout.{channels, start_rows, cycle_rows, lead_rows, array_length}
use Rattle.plan.specs.Refusals.{plan_outcome}
use Rattle.plan.specs.inner.Sizes.{sizes_in, Fitting}
use Rattle.plan.proofs.Outcomes.{cleared}

-- a plan's length by its sizes
abbrev pub by_its_sizes : List ℕ → ℕ
by_its_sizes s = 8 + 4 * channels s + 8 * (channels s * (lead_rows s + (start_rows s + cycle_rows s)))

-- Sizes of two bytes are small enough to be added and multiplied.
pub product_small : {v p c l : ℕ} → v < 65536 → p < 65536 → c < 65536 → l < 65536 → v * (l + (p + c)) ≤ 12884508675
product_small {v} {p} {c} {l} few rows cycle lead =
    let h : v ≤ 65535 = omega arith in
    let k : l + (p + c) ≤ 196605 = omega arith in
    omega (arith, mul-le-mul h k)

-- A number of two bytes at the front is what it was.
number_kept : (front rest : List ℕ) (at : ℕ) → at + 2 ≤ length front → number_at 2 (front ++ rest) at ≡ number_at 2 front at
number_kept front rest at h =
    number2 (front ++ rest) at
    ∙ ap₂ (λ (x y : ℕ). x + 256 * y) (get_or-append front rest 0 at (omega arith)) (get_or-append front rest 0 (at + 1) (omega arith))
    ∙ sym (number2 front at)

module _ (v : ℕ) (plan rest : List ℕ) (clear : plan_outcome v plan ≡ unrefused) where
  fits : Fitting plan (sizes_in plan)
  fits = (cleared v plan clear).0

  -- The length of a plan that is not refused.
  own_length : by_its_sizes plan ≡ length plan
  unfolding array_length
  own_length = let whole = fits.whole in omega arith

  head : 8 ≤ length plan
  head = let whole = fits.whole in omega arith

  -- The same is read in front of other bytes,
  front_length : by_its_sizes (plan ++ rest) ≡ length plan
  unfolding channels start_rows cycle_rows lead_rows
  front_length =
      let h = head in
      rw (number_kept plan rest 0 (omega arith), number_kept plan rest 2 (omega arith), number_kept plan rest 4 (omega arith), number_kept plan rest 6 (omega arith))
      own_length

  -- and they are all there.
  pub within : {buffer : List ℕ} → buffer ≡ plan ++ rest → {n : ℕ} → n ≡ by_its_sizes buffer → n ≤ length buffer
  within e f = let long = f ∙ ap by_its_sizes e ∙ front_length in let whole = ap length e ∙ length-append plan rest in omega arith

  pub has_head : {buffer : List ℕ} → buffer ≡ plan ++ rest → 8 ≤ length buffer
  has_head e = let whole = ap length e ∙ length-append plan rest in omega (arith, head)
