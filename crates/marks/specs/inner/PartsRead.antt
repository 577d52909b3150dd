-- What the code of refusals 9 to 11 works with. Assumes nothing.
use Rattle.refusal.specs.Outcome.{unrefused}
use Rattle.std.specs.Prelude.{ℕ, ◌<◌, ◌≡◌, List, true}
use Rattle.cltlb.specs.Fits.{view_fits}
use Rattle.cltlb.specs.declared.View.{View}
use Rattle.plan.specs.declared.sizes.Sizes.{Sizes}
use Rattle.plan.specs.inner.Sizes.{all_rows, Fitting}
use Rattle.table.specs.Layout.{marked}
use Rattle.marks.specs.Parts.{closing_outcome, equation_outcome}
use Rattle.table.specs.inner.Tables.{Sized}

-- a plan and a table of n parts whose sizes fit, and part i of them, whose terms fit and which names some of the n parts
pub record Readable (plan table : List ℕ) (n : ℕ) (z : Sizes) (i : ℕ) (p : View) : Type 0 where
  pub fits : Fitting plan z
  pub sized : Sized table n (all_rows z)
  pub present : i < n
  pub part_fits : view_fits z.channels n p ≡ true

-- 10 and 9 refuse nothing of part i
pub record PartClear (plan table : List ℕ) (z : Sizes) (p : View) (i : ℕ) : Type 0 where
  pub closing : closing_outcome plan (marked (all_rows z) table) p i ≡ unrefused
  pub equation : equation_outcome plan (marked (all_rows z) table) p i ≡ unrefused
