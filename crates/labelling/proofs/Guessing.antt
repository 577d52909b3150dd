-- A table in which marks are guessed. Assumes nothing.
use Prim.Native.Nat.{ℕ}
use mathlib.Core.Path.{◌≡◌, ◌∙◌}
use mathlib.Core.List.{List}
use lib.ListN.{length}
use Rattle.table.specs.inner.Tables.{Sized}

-- One that is as long as it was is as large.
pub as_long : {old new : List ℕ} {n w : ℕ} → length new ≡ length old → Sized old n w → Sized new n w
as_long e s = record { few_parts = s.few_parts; few_rows = s.few_rows; whole = e ∙ s.whole }
