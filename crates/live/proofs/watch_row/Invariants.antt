-- The invariants of `live::watch_row`.
use Prim.Native.Nat.{ℕ, ◌*◌}
use lib.ListN.{get_or, take, drop}
use Rattle.live.specs.State.{empty_watch, watch_after}
use Rattle.live.proofs.Filling.{Filled}
use Rattle.live.proofs.watch_row.Given as goal

abbrev pub invariant-loop-place : goal.invariant-loop-place
invariant-loop-place l =
    Filled empty_watch l.initial.watches (λ (q : ℕ). watch_after l.readings (take 836 (drop (836 * q) l.rules)) (get_or l.initial.watches q empty_watch)) l.place l.watches
