-- A comparison looked at position after position: whether it changes on none of them. Assumes nothing.
use Prim.Native.Nat.{ℕ, ◌+◌, ◌-◌, ◌≤◌, ◌<◌}
use native.Mathlib.Omega.{arith}
use mathlib.Core.Path.{◌≡◌, sym, ap, ◌∙◌}
use mathlib.Core.Bool.{Bool, true, false}
use mathlib.Core.List.{List}
use Rattle.refusal.specs.Lowest.{lowest_from}
use Rattle.refusal.proofs.Lowest.{passes, found, ended}
use Rattle.verdict.specs.Meaning.{is_changes}
use Rattle.verdict.specs.Rows.{judge_cycle}
use Rattle.verdict.specs.declared.Comparison.{Comparison}
use Rattle.verdict.specs.declared.Verdict.{Verdict}
use Rattle.settling.specs.inner.Scratch.{changing_from, is_none}

module _ (plan : List ℕ) (x : Comparison) where
  -- it changes on the passes from position t on
  abbrev changes : ℕ → Bool
  changes t = is_changes (judge_cycle plan x 4 t)

  module _ (from count : ℕ) where
    -- the positions below t have been looked at, and it changes on none of them
    abbrev pub Looked : ℕ → ℕ → Type 0
    Looked end t = (from ≤ t) × (t ≤ end) × (changing_from plan x from count ≡ lowest_from changes t (end - t))

    pub looked_first : Looked (from + count) from
    unfolding changing_from
    looked_first = (omega arith, omega arith, ap (lowest_from changes from) all)
      where
        all : count ≡ from + count - from
        all = omega arith

    module _ {end t : ℕ} (s : Looked end t) where
      -- It does not change at t,
      pub looked_on : t < end → {v : Verdict} {c : Bool} → v ≡ judge_cycle plan x 4 t → c ≡ is_changes v → c ≡ false → Looked end (t + 1)
      looked_on l e d h =
          let low = s.0 in
          (omega arith, omega arith, s.2 ∙ passes changes t end l (sym (ap is_changes e) ∙ sym d ∙ h))

      -- or it does,
      pub looked_changes : t < end → {v : Verdict} {c : Bool} → v ≡ judge_cycle plan x 4 t → c ≡ is_changes v → c ≡ true
          → false ≡ is_none (changing_from plan x from count)
      looked_changes l e d h = sym (ap is_none (s.2 ∙ found changes t end l (sym (ap is_changes e) ∙ sym d ∙ h)))

      -- or it changes on none.
      pub looked_all : end ≤ t → true ≡ is_none (changing_from plan x from count)
      looked_all h = sym (ap is_none (s.2 ∙ ended changes t end h))
