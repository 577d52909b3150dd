-- What the promises ask of a list of calls is met by every list whose rule sheets and rows are bytes, refused calls among them.
-- Assumes nothing.
use Prim.Native.Nat.{ℕ, ◌<◌}
use mathlib.Core.List.{List, [], ◌∷◌}
use lib.ListN.{get_or}
use Rattle.live.specs.Calls.{Call, add, remove, row, OfBytes, Sent, AllSent}

pub of_bytes : (s : List ℕ) → ((i : ℕ) → get_or s i 0 < 256) → OfBytes s
unfolding OfBytes
of_bytes s h = h

pub none_sent : AllSent []
unfolding AllSent
none_sent = tt

module _ (p : ℕ) (bytes : List ℕ) (calls : List Call) (sent : AllSent calls) where
  pub add_sent : OfBytes bytes → AllSent (add p bytes ∷ calls)
  unfolding Sent AllSent
  add_sent h = (h, sent)

  pub row_sent : OfBytes bytes → AllSent (row bytes ∷ calls)
  unfolding Sent AllSent
  row_sent h = (h, sent)

  pub remove_sent : AllSent (remove p ∷ calls)
  unfolding Sent AllSent
  remove_sent = (tt, sent)
