-- The table made, by its bytes: it clears refusals 7 and 8, where every part closes it passes 9 to 11, and its witnesses are the
-- lowest. Assumes nothing.
use Rattle.refusal.specs.Outcome.{unrefused}
use mathlib.Core.Path.{◌≡◌, sym, ◌∙◌, subst⁻¹}
use mathlib.Core.Bool.{true}
use mathlib.Core.List.{List}
use Prim.Native.Nat.{ℕ, ◌≤◌, ◌<◌}
use lib.Dec.{T}
use Rattle.cltlb.specs.Fits.{view_fits}
use Rattle.cltlb.specs.declared.View.{View}
use Rattle.plan.specs.Layout.{start_rows, cycle_rows, rows}
use Rattle.table.specs.Layout.{marked, witness_of, table_outcome}
use Rattle.table.proofs.TableBytes as bytes
use Rattle.marks.specs.Parts.{witness_in_order}
use Rattle.marks.proofs.Accepted.{Accepted}
use Rattle.labelling.specs.Labels.{made_mark, made_witness, made_table}
use Rattle.labelling.proofs.Labelled.{lowest_least, lowest_small}
use Rattle.labelling.proofs.SameMarks.{SameBelow}
use Rattle.labelling.proofs.Made.{Closed, agree_witness, made_accepted}

module _ (plan : List ℕ) (h_c : 1 ≤ cycle_rows plan) (few : rows plan ≤ 256) (parts : ℕ → View) (v n : ℕ)
    (fits : (i : ℕ) → i < n → view_fits v i (parts i) ≡ true) where
  abbrev table : List ℕ
  table = made_table parts plan n

  pub table_same : SameBelow plan (made_mark parts plan) (marked (rows plan) table) n
  unfolding made_table
  table_same i l row q = sym (bytes.table_mark n (rows plan) (made_mark parts plan) (made_witness parts plan) i row l q)

  witness_small : (i : ℕ) → made_witness parts plan i < 65536
  unfolding made_witness
  witness_small i = lowest_small plan h_c (made_mark parts plan) few (parts i) i

  table_witness : (i : ℕ) → i < n → witness_of n (rows plan) table i ≡ made_witness parts plan i
  unfolding made_table
  table_witness i l = bytes.table_witness n (rows plan) (made_mark parts plan) (made_witness parts plan) i l (witness_small i)

  pub table_clear : n ≤ 64 → table_outcome n (rows plan) table ≡ unrefused
  unfolding made_table
  table_clear few_parts = bytes.table_clear n (rows plan) (made_mark parts plan) (made_witness parts plan) few_parts few

  -- Where every part closes, 9 to 11 turn nothing away.
  pub table_accepted : ((i : ℕ) → i < n → Closed plan h_c parts v n fits i) → Accepted plan parts n (marked (rows plan) table) (witness_of n (rows plan) table)
  table_accepted closed =
      made_accepted plan h_c parts v n fits (marked (rows plan) table) table_same closed (witness_of n (rows plan) table) table_witness

  -- Each witness is the lowest in order.
  pub table_lowest : (i : ℕ) → i < n → (w : ℕ) → T (witness_in_order (start_rows plan) (cycle_rows plan) (marked (rows plan) table) (parts i) i w)
      → witness_of n (rows plan) table i ≤ w
  table_lowest i l w t =
      subst⁻¹ (λ (u : ℕ). u ≤ w) (table_witness i l ∙ agree_witness plan h_c parts v n fits (marked (rows plan) table) table_same i l)
      (lowest_least plan h_c (marked (rows plan) table) few (parts i) i w t)
