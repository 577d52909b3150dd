-- What the maker promises, on all inputs: of its answer, and of the bytes of the lent buffer before and after. Assumes nothing.
use Rattle.std.specs.Prelude.{Result, Ok, Err, ℕ, ◌+◌, ◌*◌, ◌-◌, ◌≤◌, ◌<◌, ◌≡◌, List, Bool, ◌↔◌, T, length}
use Rattle.refusal.specs.declared.Refusal.{Refusal}
use Rattle.refusal.specs.Outcome.{unrefused}
use Rattle.refusal.specs.declared.Refusal.TheVariants.{NoTable}
use Rattle.rule.specs.Layout.{part_count, channel_count}
use Rattle.rule.specs.Take.{views_of}
use Rattle.rule.specs.Sheet.{sheet_outcome}
use Rattle.plan.specs.Layout.{start_rows, cycle_rows, rows}
use Rattle.plan.specs.Refusals.{plan_outcome}
use Rattle.marks.specs.Parts.{witness_in_order}
use Rattle.marks.specs.RefusalMeaning as refusal
use Rattle.labelling.specs.Labels.{made_mark, made_witness}
use Rattle.acceptance.specs.Check.{mark_of, witness_at, check_of}
use Rattle.acceptance.specs.Promise.{RuleTruth, TableRight}
use Rattle.maker.specs.Make.{make_of, bytes_after}

-- The rule, the plan and the buffer clear refusals 1 to 6 and 13.
pub record Lent (rule plan before : List ℕ) : Type 0 where
  pub sheet : sheet_outcome rule ≡ unrefused
  pub plan_clear : plan_outcome (channel_count rule) plan ≡ unrefused
  pub buffer : length before ≡ 4 + part_count rule * rows plan + 2 * part_count rule

-- No list of numbers at all, and so no byte string, is accepted as a mark table for the rule and the plan.
unfoldable pub NoneAccepted : List ℕ → List ℕ → Type 0
NoneAccepted rule plan = (table : List ℕ) (v : Bool) → ¬ (check_of rule plan table ≡ Ok v)

-- Every number that is in order as the witness of part i is no lower than the one that the table has.
unfoldable pub LowestWitness : List ℕ → List ℕ → List ℕ → ℕ → Type 0
LowestWitness rule plan table i =
    (w : ℕ) → T (witness_in_order (start_rows plan) (cycle_rows plan) (mark_of rule plan table) (views_of rule i) i w) → witness_at rule plan table i ≤ w

-- What 14 of part i and a row says, as 10 does: every lower part is settled; the row is a cycle row on which the published truth of
-- part i is not the same on all passes, of an atom the lowest such row, of an operator row P.
unfoldable pub OpenMeans : List ℕ → List ℕ → ℕ → ℕ → Type 0
OpenMeans rule plan i row =
    refusal.ClosingMeans (views_of rule) (part_count rule) plan (made_mark (views_of rule) plan) (made_witness (views_of rule) plan) i row

pub record MakePromise (rule plan before after : List ℕ) (answer : Result Bool Refusal) : Type 0 where
  -- the answer is the first refusal that applies, or that the table is made
  pub is_make : answer ≡ make_of rule plan before
  -- the buffer is as it was, all zero bytes, or the table
  pub bytes : after ≡ bytes_after rule plan before
  -- a table made is accepted, with the verdict that is answered:
  pub accepted : (v : Bool) → answer ≡ Ok v → check_of rule plan after ≡ Ok v
  -- its marks are the published truth on all passes, and the verdict is that of the whole rule at position 0;
  pub right : (v : Bool) → answer ≡ Ok v → TableRight rule plan after
  pub verdict : (v : Bool) → answer ≡ Ok v → T v ↔ RuleTruth rule plan (part_count rule - 1) 0
  -- each witness is the lowest that serves
  pub lowest : (v : Bool) → answer ≡ Ok v → (i : ℕ) → i < part_count rule → LowestWitness rule plan after i
  -- it answers 14 exactly where no mark table is accepted
  pub refuses : Lent rule plan before → ((i row : ℕ) × (answer ≡ Err (NoTable i row))) ↔ NoneAccepted rule plan
  -- what 14 of part i says
  pub opened : (i row : ℕ) → answer ≡ Err (NoTable i row) → OpenMeans rule plan i row
