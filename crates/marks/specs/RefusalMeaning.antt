-- What refusals 10, 9 and 11 of a part say of the published truth, over any n parts, plan and marks. Assumes nothing.
use Rattle.std.specs.Prelude.{ℕ, ◌≤◌, ◌<◌, ◌≡◌, List, Bool, true, false, ◌↔◌, T}
use Rattle.cltlb.specs.Views.{two_view, is_atom}
use Rattle.cltlb.specs.declared.View.{View}
use Rattle.cltlb.specs.declared.Binary.TheVariants.{Until, Release}
use Rattle.plan.specs.Layout.{start_rows, cycle_rows, rows}
use Rattle.plan.specs.Positions.{after}
use Rattle.marks.specs.Parts.{witness_in_order}
use Rattle.marks.specs.Meaning.{Truth, SameOn, DiffersOn, PartSettled, MarkTrue, PartMarksTrue, PartWitnessed}

module _ (parts : ℕ → View) (n : ℕ) (plan : List ℕ) (mark : ℕ → ℕ → Bool) (witness : ℕ → ℕ) where
  -- Part i is right: it is settled, its marks are true, its witness is in order.
  pub record PartRight (i : ℕ) : Type 0 where
    pub settled : PartSettled parts plan i
    pub marks : PartMarksTrue parts plan i mark
    pub witnessed : PartWitnessed parts plan i mark witness

  -- Part i is one of the n, and every lower one is right: what each of the three refusals of part i says.
  pub record FirstFault (i : ℕ) : Type 0 where
    pub present : i < n
    pub lower : (j : ℕ) → j < i → PartRight j

  -- 9 of part i and a row
  pub record EquationMeans (i row : ℕ) : Type 0 where
    pub fault : FirstFault i
    -- the plan is not at fault there: the part is settled
    pub settled : PartSettled parts plan i
    pub row_there : row < rows plan
    -- the marks of the part are not all true:
    pub not-true : ¬ PartMarksTrue parts plan i mark
    -- the one on that row is false,
    pub false_here : ((a b : ℕ) → ¬ (parts i ≡ two_view Until a b)) → ((a b : ℕ) → ¬ (parts i ≡ two_view Release a b)) → ¬ MarkTrue parts plan i mark row
    -- and it is the lowest such row: those on the rows below are true;
    pub lowest : ((a b : ℕ) → ¬ (parts i ≡ two_view Until a b)) → ((a b : ℕ) → ¬ (parts i ≡ two_view Release a b)) → (q : ℕ) → q < row → MarkTrue parts plan i mark q
    -- of U and R, that one or the one on the row after, at which the equation looks
    pub false_beside : ¬ (MarkTrue parts plan i mark row × MarkTrue parts plan i mark (after (start_rows plan) (cycle_rows plan) row))

  -- 10 of part i and a row
  pub record ClosingMeans (i row : ℕ) : Type 0 where
    pub fault : FirstFault i
    -- it is a cycle row
    pub in_cycle : (start_rows plan ≤ row) × (row < rows plan)
    -- on which the part's truth is not the same on all passes, whatever its marks say;
    pub differs : DiffersOn plan (Truth parts plan i) row
    -- of an atom it is the lowest such row,
    pub lowest : is_atom (parts i) ≡ true → (q : ℕ) → start_rows plan ≤ q → q < row → SameOn plan (Truth parts plan i) q
    -- of an operator it is row P
    pub at_start : is_atom (parts i) ≡ false → row ≡ start_rows plan

  -- 11 of part i
  pub record WitnessMeans (i : ℕ) : Type 0 where
    pub fault : FirstFault i
    -- the plan is not at fault there: the part is settled
    pub settled : PartSettled parts plan i
    -- its witness is not in order,
    pub not_in_order : ¬ PartWitnessed parts plan i mark witness
    -- and some number is in order in its place exactly where the marks of the part are true
    pub serves : ((w : ℕ) × T (witness_in_order (start_rows plan) (cycle_rows plan) mark (parts i) i w)) ↔ PartMarksTrue parts plan i mark
