-- The outcome of a table, case by case. Assumes nothing.
use Rattle.std.specs.Prelude.{Err}
use Rattle.refusal.specs.Outcome.{unrefused}
use Prim.Native.Nat.{ℕ, ◌+◌, ◌*◌, ◌/◌, ◌%◌, ◌≤◌, ◌<◌}
use native.Mathlib.Nat.{mod-lt, div-lt_iff_lt-mul, div-add-mod'}
use native.Mathlib.Decide.{dec_lt}
use native.Mathlib.Omega.{arith}
use mathlib.Core.Path.{◌≡◌, sym, ap, subst}
use mathlib.Core.Logic.{by_cases}
use mathlib.Core.Bool.{true, not}
use mathlib.Core.List.{List}
use lib.Dec.{ltb}
use lib.ListN.{length, get_or}
use borrow.Author.Tests.{ltb-false, not-true, le-leb, lt-leb, eq-eqb, ne_eqb}
use Rattle.fields.specs.LittleEndian.{number_at}
use Rattle.refusal.specs.First.{◌or_else◌, unless, in_turn}
use Rattle.refusal.specs.declared.Refusal.TheVariants.{MarkSizes, MarkByte}
use Rattle.refusal.proofs.First.{or_else_clear, at_lowest_clear, in_turn_clear}
use Rattle.table.specs.Layout.{sizes_fit, mark_byte, above_one, bytes_outcome, table_outcome}
use Rattle.table.specs.inner.Tables.{all_below, Sized, MarkBytes}
use Rattle.table.proofs.AllBelow.{all_each}
use Rattle.table.proofs.Places.{cell}

module _ (n w : ℕ) (table : List ℕ) where
  pub short : length table < 4 → Err MarkSizes ≡ table_outcome n w table
  unfolding table_outcome sizes_fit unless ◌or_else◌
  short h = simp (lt-leb 4 (length table) h)

  module _ (h : 4 ≤ length table) where
    pub other_parts : {u : ℕ} → u ≡ number_at 2 table 0 → (u ≡ n → ⊥) → Err MarkSizes ≡ table_outcome n w table
    unfolding table_outcome sizes_fit unless ◌or_else◌
    other_parts {u} d e = simp (le-leb 4 (length table) h, ← d, ne_eqb u n e)

    module _ {u : ℕ} (d : u ≡ number_at 2 table 0) (e : u ≡ n) where
      pub other_rows : {x : ℕ} → x ≡ number_at 2 table 2 → (x ≡ w → ⊥) → Err MarkSizes ≡ table_outcome n w table
      unfolding table_outcome sizes_fit unless ◌or_else◌
      other_rows {x} g k = simp (le-leb 4 (length table) h, ← d, eq-eqb u n e, ← g, ne_eqb x w k)

      module _ {x : ℕ} (g : x ≡ number_at 2 table 2) (k : x ≡ w) where
        pub other_length : (length table ≡ 4 + n * w + 2 * n → ⊥) → Err MarkSizes ≡ table_outcome n w table
        unfolding table_outcome sizes_fit unless ◌or_else◌
        other_length l = simp (le-leb 4 (length table) h, ← d, eq-eqb u n e, ← g, eq-eqb x w k, ne_eqb (length table) (4 + n * w + 2 * n) l)

        pub fitting : length table ≡ 4 + n * w + 2 * n → in_turn (bytes_outcome w table) n ≡ table_outcome n w table
        unfolding table_outcome sizes_fit unless ◌or_else◌
        fitting l = simp (le-leb 4 (length table) h, ← d, eq-eqb u n e, ← g, eq-eqb x w k, eq-eqb (length table) (4 + n * w + 2 * n) l)

  -- A table of which every byte is a mark.
  pub all_bytes : all_below (λ k. not (ltb 1 (get_or table (4 + k) 0))) (n * w) ≡ true → unrefused ≡ in_turn (bytes_outcome w table) n
  unfolding bytes_outcome above_one mark_byte
  all_bytes h =
      sym ((in_turn_clear (bytes_outcome w table) n).1 (λ part l.
      (at_lowest_clear (above_one w table part) w (MarkByte part)).1 (λ row q.
      not-true _ (all_each (λ k. not (ltb 1 (get_or table (4 + k) 0))) (n * w) h (part * w + row) (cell n w part row l q)))))

  -- A table that passes refusal 8 has marks alone.
  pub cleared_marks : table_outcome n w table ≡ unrefused → Sized table n w → MarkBytes table 4 (n * w)
  unfolding table_outcome bytes_outcome above_one mark_byte
  cleared_marks e sized = record { there = let whole = sized.whole in omega arith; low = λ k l. by_cases (dec_lt 0 w) (here k l) (λ s. absurd (empty k l s)) }
    where
      each : (part row : ℕ) → part < n → row < w → get_or table (4 + (part * w + row)) 0 ≤ 1
      each part row h l =
          ltb-false 1 _ ((at_lowest_clear (above_one w table part) w (MarkByte part)).0
          ((in_turn_clear (bytes_outcome w table) n).0 ((or_else_clear (unless (sizes_fit n w table) MarkSizes) (in_turn (bytes_outcome w table) n)).0 e).1 part h) row l)

      here : (k : ℕ) → k < n * w → 0 < w → get_or table (4 + k) 0 ≤ 1
      here k l some =
          subst (λ (j : ℕ). get_or table (4 + j) 0 ≤ 1) (div-add-mod' k w)
          (each (k / w) (k % w) ((div-lt_iff_lt-mul {k = w} {x = k} {y = n} some).1 l) (mod-lt k some))

      empty : (k : ℕ) → k < n * w → (0 < w → ⊥) → ⊥
      empty k l s = let none : w ≡ 0 = omega arith in let same : n * w ≡ n * 0 = ap (λ (x : ℕ). n * x) none in omega arith
