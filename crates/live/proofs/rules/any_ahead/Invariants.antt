-- The invariants of `live::rules::any_ahead`.
use Prim.Native.Nat.{ℕ}
use mathlib.Core.Path.{◌≡◌}
use mathlib.Core.Bool.{false}
use Rattle.rule.specs.Take.{views_of}
use Rattle.plan.specs.Layout.{any_below}
use Rattle.past.specs.Ahead.{view_ahead}
use Rattle.live.proofs.rules.any_ahead.Given as goal

abbrev pub invariant-loop-i : goal.invariant-loop-i
invariant-loop-i l = any_below (λ (j : ℕ). view_ahead (views_of l.sheet j)) l.i ≡ false
