-- The positions that are direct for a comparison. Assumes nothing.
use Prim.Native.Nat.{ℕ, ◌+◌, ◌-◌, min, max, ◌≤◌, ◌<◌}
use native.Mathlib.Omega.{arith}
use mathlib.Core.Path.{◌≡◌, refl}
use mathlib.Core.Bool.{Bool, true, false, cond, true≢false}
use Rattle.plan.specs.inner.Sizes.{all_rows}
use Rattle.plan.specs.declared.sizes.Sizes.{Sizes}
use Rattle.lanes.specs.inner.Ranges.{Divides}

pub told_drifting : {still : Bool} (lines inside m : ℕ) → still ≡ false → m ≡ min lines inside → m ≡ cond still inside (min lines inside)
told_drifting lines inside m e g = rw e g

-- each range by the reach of the two shifts: `far` positions are too near the run's beginning for the one back, and those `inside` are
-- not too near the last row for the one ahead
module _ (z : Sizes) (back high far inside : ℕ) (near : back ≤ z.lead + far) (beyond : (t : ℕ) → t < far → z.lead + t < back)
    (few : inside ≤ all_rows z) (ahead : (t : ℕ) → t < inside → t + high < all_rows z + 4) where
  divided : (still : Bool) (before told numbers end : ℕ) → before ≡ min far (all_rows z) → told ≡ cond still inside (min (z.start + back) inside) → numbers ≡ max before told
      → end ≡ max numbers inside → Divides z back high still (record { before = before; numbers = numbers; end = end })
  divided true before told numbers end e1 e2 e3 e4 = record {
    in_order = (omega arith, omega arith, omega arith);
    reach_before = λ t l. beyond t (omega arith);
    numbers_direct = λ t l k. ((omega arith, ahead t (omega arith)), λ e. absurd (true≢false e));
    lines_direct = λ t l k. absurd (omega arith);
  }
  divided false before told numbers end e1 e2 e3 e4 = record {
    in_order = (omega arith, omega arith, omega arith);
    reach_before = λ t l. beyond t (omega arith);
    numbers_direct = λ t l k. ((omega arith, ahead t (omega arith)), λ e. omega arith);
    lines_direct = λ t l k. ((omega arith, ahead t (omega arith)), omega arith, refl);
  }

pub divides : (z : Sizes) (back high : ℕ) (still : Bool) (far inside before told numbers end : ℕ) → far ≡ back - z.lead → inside ≡ all_rows z - (high - 4) → before ≡ min far (all_rows z)
    → told ≡ cond still inside (min (z.start + back) inside) → numbers ≡ max before told → end ≡ max numbers inside
    → Divides z back high still (record { before = before; numbers = numbers; end = end })
divides z back high still far inside before told numbers end ef ei e1 e2 e3 e4 =
    divided z back high far inside (near ef) (beyond ef) (few ei) (ahead ei) still before told numbers end e1 e2 e3 e4
  where
    near : far ≡ back - z.lead → back ≤ z.lead + far
    near e = omega arith

    beyond : far ≡ back - z.lead → (t : ℕ) → t < far → z.lead + t < back
    beyond e t l = omega arith

    few : inside ≡ all_rows z - (high - 4) → inside ≤ all_rows z
    few e = omega arith

    ahead : inside ≡ all_rows z - (high - 4) → (t : ℕ) → t < inside → t + high < all_rows z + 4
    ahead e t l = omega arith
