-- What marks that are accepted mean: demand 3, part by part, over any parts, each a view, plan and marks. Assumes nothing.
use Rattle.std.specs.Prelude.{ℕ, ◌+◌, ◌*◌, ◌≤◌, ◌<◌, List, Bool, ◌↔◌, T}
use Rattle.cltlb.specs.Truth.{Holds}
use Rattle.cltlb.specs.Parts.{formula_of}
use Rattle.cltlb.specs.declared.View.{View}
use Rattle.plan.specs.Layout.{start_rows, cycle_rows, rows}
use Rattle.plan.specs.Run.{run_of}
use Rattle.marks.specs.Parts.{witness_in_order}

-- the published truth of part i at position t
unfoldable pub Truth : (ℕ → View) → List ℕ → ℕ → ℕ → Type 0
Truth parts plan i t = Holds (run_of plan) (formula_of parts i) t

-- of a statement F about positions
module _ (plan : List ℕ) (F : ℕ → Type 0) where
  -- on a cycle row it has the same truth on all passes, without end
  unfoldable pub SameOn : ℕ → Type 0
  SameOn row = (k : ℕ) → F row ↔ F (row + k * cycle_rows plan)

  -- on a row it holds on one pass and not on another
  unfoldable pub DiffersOn : ℕ → Type 0
  DiffersOn row = ((k : ℕ) × F (row + k * cycle_rows plan)) × ((k : ℕ) × (¬ F (row + k * cycle_rows plan)))

-- of part i
module _ (parts : ℕ → View) (plan : List ℕ) (i : ℕ) where
  -- it has, on each cycle row, the same published truth on all passes
  unfoldable pub PartSettled : Type 0
  PartSettled = (row : ℕ) → start_rows plan ≤ row → row < rows plan → SameOn plan (Truth parts plan i) row

  module _ (mark : ℕ → ℕ → Bool) where
    -- its mark on a row is its published truth at the first position of the row
    unfoldable pub MarkTrue : ℕ → Type 0
    MarkTrue row = T (mark i row) ↔ Truth parts plan i row

    -- every mark of it is true
    unfoldable pub PartMarksTrue : Type 0
    PartMarksTrue = (row : ℕ) → row < rows plan → MarkTrue row

    -- its witness is in order
    unfoldable pub PartWitnessed : (ℕ → ℕ) → Type 0
    PartWitnessed witness = T (witness_in_order (start_rows plan) (cycle_rows plan) mark (parts i) i (witness i))

-- of the parts below n
module _ (parts : ℕ → View) (n : ℕ) (plan : List ℕ) where
  -- every part has, on each cycle row, the same published truth on all passes, without end
  unfoldable pub Settled : Type 0
  Settled = (i : ℕ) → i < n → PartSettled parts plan i

  module _ (mark : ℕ → ℕ → Bool) where
    -- every mark is the published truth of its part at the first position of its row
    unfoldable pub MarksTrue : Type 0
    MarksTrue = (i : ℕ) → i < n → PartMarksTrue parts plan i mark

    -- every witness is in order
    unfoldable pub WitnessesInOrder : (ℕ → ℕ) → Type 0
    WitnessesInOrder witness = (i : ℕ) → i < n → PartWitnessed parts plan i mark witness
