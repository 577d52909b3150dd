-- What the code of the whole check works with. Assumes nothing.
use Rattle.std.specs.Prelude.{ℕ, ◌*◌, List}
use Rattle.plan.specs.declared.sizes.Sizes.{Sizes}
use Rattle.plan.specs.inner.Sizes.{all_rows}
use Rattle.inputs.specs.inner.Read.{Ready}
use Rattle.table.specs.inner.Tables.{Sized, MarkBytes}

-- a rule of n parts, a plan of sizes z and a table that clear refusals 1 to 8
pub record Prepared (rule plan table : List ℕ) (n : ℕ) (z : Sizes) : Type 0 where
  pub ready : Ready rule plan n z
  pub sized : Sized table n (all_rows z)
  pub marks : MarkBytes table 4 (n * all_rows z)
