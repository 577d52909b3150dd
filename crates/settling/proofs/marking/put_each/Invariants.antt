-- The invariants of `settling::marking::put_each`.
use mathlib.Core.Path.{◌≡◌}
use mathlib.Core.Bool.{Bool}
use Prim.Native.Nat.{ℕ, ◌<◌}
use lib.ListN.{length}
use Rattle.words.specs.inner.Written.{Marked}
use Rattle.settling.specs.inner.Scratch.{Lower}
use Rattle.settling.proofs.marking.put_each.Given as goal

abbrev pub invariant-loop-row : goal.invariant-loop-row
invariant-loop-row g l =
    (length l.scratch ≡ length l.initial.scratch)
    × Lower l.i l.initial.scratch l.scratch
    × ((given : ℕ → Bool) → ((s : _) (row : ℕ) (x : Bool) → Lower l.i l.initial.scratch s.now → row < l.count → goal.F-post g l.mark s row x → x ≡ given row)
    → Marked l.initial.scratch l.scratch l.i 0 l.row given)
