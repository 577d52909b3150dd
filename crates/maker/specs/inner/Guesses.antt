-- A table guessed. Assumes nothing.
use Rattle.std.specs.Prelude.{Result, Ok, ℕ, ◌+◌, ◌*◌, ◌<◌, ◌≡◌, List, Bool, length, get_or}
use Rattle.refusal.specs.declared.Refusal.{Refusal}
use Rattle.fields.specs.LittleEndian.{bytes_of}
use Rattle.rule.specs.Take.{views_of}
use Rattle.table.specs.Layout.{marked}
use Rattle.labelling.specs.Labels.{lowest_witness, made_table}
use Rattle.acceptance.specs.Check.{check_of}
use Rattle.maker.specs.inner.Parts.{AgreeOn}

-- Into a buffer for n parts on w rows the witnesses of the parts below i are written, each the lowest by the marks that stand there;
-- what lies before the witnesses is as it was.
pub record Witnessed (rule plan old new : List ℕ) (n w i : ℕ) : Type 0 where
  pub long : length new ≡ length old
  pub kept : AgreeOn new old 0 (4 + n * w)
  pub lowest : (a k : ℕ) → a < i → k < 2
      → get_or new (4 + n * w + 2 * a + k) 0 ≡ get_or (bytes_of 2 (lowest_witness plan (marked w old) (views_of rule a) a)) k 0

-- A guess in a buffer, and what the check says of it: where it accepts, the guess is the table.
pub record Guessed (rule plan old new : List ℕ) (n : ℕ) (answer : Result Bool Refusal) : Type 0 where
  pub long : length new ≡ length old
  pub is_check : answer ≡ check_of rule plan new
  pub right : (v : Bool) → answer ≡ Ok v → new ≡ made_table (views_of rule) plan n
