-- For a rule and a plan that clear refusals 1 to 6: every part closes, by the marks made, exactly where every part is settled, and
-- the maker then makes the table. Assumes nothing.
use Rattle.std.specs.Prelude.{Ok}
use mathlib.Core.Path.{◌≡◌}
use mathlib.Core.Bool.{Bool}
use mathlib.Core.List.{List}
use mathlib.Core.Logic.Iff
use mathlib.Core.Logic.{◌↔◌}
use Prim.Native.Nat.{ℕ, ◌+◌, ◌*◌, ◌-◌, ◌<◌}
use native.Mathlib.Omega.{arith}
use lib.ListN.{length}
use borrow.Author.Tests.{eq-eqb}
use Rattle.refusal.specs.Outcome.{unrefused}
use Rattle.refusal.specs.First.{◌or_else◌, unless}
use Rattle.refusal.proofs.First.{in_turn_clear}
use Rattle.rule.specs.Layout.{part_count, channel_count}
use Rattle.rule.specs.Take.{views_of}
use Rattle.plan.specs.Layout.{rows}
use Rattle.inputs.specs.Outcome.{inputs_outcome}
use Rattle.marks.specs.Parts.{closing_outcome}
use Rattle.marks.specs.Meaning.{Settled}
use Rattle.labelling.specs.Labels.{made_mark}
use Rattle.labelling.proofs.Made.{Closed}
use Rattle.labelling.proofs.Settled.{closed_settled, settled_closed}
use Rattle.maker.specs.Make.{open_outcome, closings_outcome, lent_outcome, make_outcome, answered, make_of}
use Rattle.maker.proofs.Promised.{no_table_clear, some_cycle, fits}

module _ (rule plan : List ℕ) (clear : inputs_outcome rule plan ≡ unrefused) where
  -- part i closes, by the marks made
  abbrev Closes : ℕ → Type 0
  Closes = Closed plan (some_cycle rule plan clear) (views_of rule) (channel_count rule) (part_count rule) (fits rule plan clear)

  -- 14 refuses nothing exactly where every part closes,
  closings_closed : (closings_outcome rule plan ≡ unrefused) ↔ ((i : ℕ) → i < part_count rule → Closes i)
  unfolding closings_outcome open_outcome
  closings_closed = Iff.trans (in_turn_clear (open_outcome rule plan) (part_count rule)) (
    λ h i l. (one i).0 (h i l),
    λ h i l. (one i).1 (h i l),
  )
    where
      one : (i : ℕ) → (open_outcome rule plan i ≡ unrefused) ↔ Closes i
      one i = no_table_clear (closing_outcome plan (made_mark (views_of rule) plan) (views_of rule i) i)

  -- SETTLED: that is, where every part has on each cycle row the same published truth on all passes.
  pub closings_settled : (closings_outcome rule plan ≡ unrefused) ↔ Settled (views_of rule) (part_count rule) plan
  unfolding Settled
  closings_settled = Iff.trans closings_closed (
    closed_settled plan (some_cycle rule plan clear) (views_of rule) (channel_count rule) (part_count rule) (fits rule plan clear)
        (part_count rule) (omega arith),
    settled_closed plan (some_cycle rule plan clear) (views_of rule) (channel_count rule) (part_count rule) (fits rule plan clear)
        (part_count rule) (omega arith),
  )

  -- Where it refuses nothing, a table is made in every buffer of the right length.
  pub settled_makes : closings_outcome rule plan ≡ unrefused → (table : List ℕ)
      → length table ≡ 4 + part_count rule * rows plan + 2 * part_count rule → (v : Bool) × (make_of rule plan table ≡ Ok v)
  unfolding make_of make_outcome lent_outcome answered ◌or_else◌ unless
  settled_makes closed table long =
      let fitting = eq-eqb (length table) (4 + part_count rule * rows plan + 2 * part_count rule) long in
      (made_mark (views_of rule) plan (part_count rule - 1) 0, simp (clear, fitting, closed))
