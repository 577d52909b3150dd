-- A table in the making. Assumes nothing.
use Rattle.std.specs.Prelude.{ℕ, ◌+◌, ◌*◌, ◌≤◌, ◌<◌, ◌≡◌, List, length, get_or}
use Rattle.refusal.specs.Outcome.{Outcome, unrefused}
use Rattle.rule.specs.Take.{views_of}
use Rattle.table.specs.inner.Tables.{Sized}
use Rattle.labelling.specs.Labels.{made_table}

-- two byte strings agree from a place to below another
abbrev pub AgreeOn : List ℕ → List ℕ → ℕ → ℕ → Type 0
AgreeOn x y low high = (k : ℕ) → low ≤ k → k < high → get_or x k 0 ≡ get_or y k 0

-- In a buffer for n parts on w rows the marks and witnesses of the parts below i are those of the table.
pub record MadeBelow (rule plan table : List ℕ) (n w i : ℕ) : Type 0 where
  pub sized : Sized table n w
  pub marks : AgreeOn table (made_table (views_of rule) plan n) 4 (4 + i * w)
  pub witnesses : AgreeOn table (made_table (views_of rule) plan n) (4 + n * w) (4 + n * w + 2 * i)

-- What is left in a buffer by an outcome: it is as long as it was, and where nothing is refused the parts below i are made.
pub record MadeTo (rule plan old new : List ℕ) (n w i : ℕ) (outcome : Outcome) : Type 0 where
  pub long : length new ≡ length old
  pub made : outcome ≡ unrefused → MadeBelow rule plan new n w i
