-- Places of bytes that are marks, 0 or 1. Assumes nothing.
use Prim.Native.Nat.{ℕ, ◌+◌, ◌≤◌}
use native.Mathlib.Omega.{arith}
use mathlib.Core.Path.{◌≡◌, subst}
use mathlib.Core.List.{List}
use lib.ListN.{get_or}
use Rattle.table.specs.inner.Tables.{MarkBytes}

-- Some of many.
pub some_bytes : {table : List ℕ} {at all : ℕ} → MarkBytes table at all → (skip count : ℕ) → skip + count ≤ all → {place : ℕ} → place ≡ at + skip
    → MarkBytes table place count
some_bytes {table} {at} {all} marks skip count h {place} e = record {
  there = let long = marks.there in omega arith;
  low = λ k l. let same : at + (skip + k) ≡ place + k = omega arith in subst (λ (j : ℕ). get_or table j 0 ≤ 1) same (marks.low (skip + k) (omega arith));
}
