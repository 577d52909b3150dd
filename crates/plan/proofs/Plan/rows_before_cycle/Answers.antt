-- `plan::check::rows_before_cycle` meets its contract. Assumes nothing.
use Rattle.std.specs.Prelude.{Err}
use mathlib.Core.Path.{◌∙◌, ap, sym, ◌≡◌}
use Rattle.refusal.specs.Lowest.{lowest, lowest_from}
use Rattle.refusal.specs.First.{refused_at, at_lowest}
use Rattle.refusal.specs.declared.Refusal.TheVariants.{StartDrift}
use Rattle.refusal.proofs.Lowest.{passes, found, ended}
use Rattle.plan.specs.Refusals.{drifting, named_row, drift_refusal}
use native.Mathlib.Omega.{arith}
use Prim.Native.Nat.{ℕ, ◌+◌, ◌-◌}
use Rattle.plan.proofs.Plan.rows_before_cycle.Goals as goal

pub loop-k-init : goal.loop-k-init
unfolding at_lowest lowest
loop-k-init c = let n = c.args.self.now.sizes.lead + c.args.self.now.sizes.start in
    let left : n ≡ n - 0 = omega arith in
    ap (λ (m : ℕ). refused_at (drift_refusal c.args.self.now.sizes.lead) (lowest_from (drifting c.args.self.now.bytes.now) 0 m)) left

pub returns-then-drifting : goal.returns-then-drifting
unfolding refused_at named_row
returns-then-drifting c = let n = c.args.self.now.sizes.lead + c.args.self.now.sizes.start in
    let here = found (drifting c.args.self.now.bytes.now) c.loop-k.k n c.loop-k-test.true (sym c.drifting.ensures ∙ c.if-drifting.true) in
    ap (λ (row : ℕ). Err (StartDrift row)) c.saturating_sub.ensures ∙ sym (c.loop-k.invariant ∙ ap (refused_at (drift_refusal c.args.self.now.sizes.lead)) here)

pub loop-k-preserved : goal.loop-k-preserved
loop-k-preserved c = let n = c.args.self.now.sizes.lead + c.args.self.now.sizes.start in
    let later = passes (drifting c.args.self.now.bytes.now) c.loop-k.k n c.loop-k-test.true (sym c.drifting.ensures ∙ c.if-drifting.false) in
    c.loop-k.invariant ∙ ap (refused_at (drift_refusal c.args.self.now.sizes.lead)) later

pub returns : goal.returns
unfolding refused_at
returns c = let n = c.args.self.now.sizes.lead + c.args.self.now.sizes.start in
    let none = ended (drifting c.args.self.now.bytes.now) c.loop-k.k n c.loop-k-test.false in
    sym (c.loop-k.invariant ∙ ap (refused_at (drift_refusal c.args.self.now.sizes.lead)) none)
