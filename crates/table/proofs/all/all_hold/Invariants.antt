-- The invariants of `table::all::all_hold`.
use Rattle.std.proofs.Common.{◌≡◌, ℕ, Bool, ◌<◌}
use Rattle.table.specs.inner.Tables.{all_below}
use Rattle.table.proofs.all.all_hold.Given as goal

abbrev pub invariant-loop-k : goal.invariant-loop-k
invariant-loop-k g l = (test : ℕ → Bool) → ((k : ℕ) (x : Bool) → k < l.count → goal.F-post g l.holds k x → x ≡ test k) → l.all ≡ all_below test l.k
