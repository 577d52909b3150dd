-- The invariants of `verdict::early::join_first`.
use Prim.Native.Nat.{ℕ, ◌<◌}
use mathlib.Core.Path.{◌≡◌}
use mathlib.Core.Bool.{Bool}
use Rattle.verdict.specs.Rows.{join_first}
use Rattle.verdict.proofs.early.join_first.Given as goal

abbrev pub invariant-loop-k : goal.invariant-loop-k
invariant-loop-k g l =
    (truth : ℕ → Bool) → ((k : ℕ) (x : Bool) → k < l.n → goal.F-post g l.test k x → x ≡ truth k)
    → join_first truth l.n l.fn.later ≡ join_first truth l.k l.verdict
