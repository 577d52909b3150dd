-- 14 and 10 name the same part and row. Of a part below which every part is right, the maker says 14, in a buffer of the right length,
-- exactly where the check says 10, on the same row, whatever the marks of that part and of higher ones are. Assumes nothing.
use Rattle.refusal.specs.Outcome.{unrefused}
use Rattle.std.specs.Prelude.{Err}
use Prim.Native.Nat.{ℕ, ◌+◌, ◌*◌, ◌≤◌, ◌<◌}
use native.Mathlib.Omega.{arith}
use mathlib.Core.Path.{◌≡◌, refl, sym, ◌∙◌}
use mathlib.Core.List.{List}
use mathlib.Core.Bool.{true}
use mathlib.Core.Logic.Iff
use mathlib.Core.Logic.{◌↔◌}
use lib.ListN.{length}
use Rattle.cltlb.specs.Fits.{view_fits}
use Rattle.refusal.specs.declared.Refusal.TheVariants.{Closing, NoTable}
use Rattle.rule.specs.Layout.{part_count, channel_count}
use Rattle.rule.specs.Take.{views_of}
use Rattle.plan.specs.Layout.{cycle_rows, rows}
use Rattle.inputs.specs.Outcome.{inputs_outcome}
use Rattle.inputs.proofs.Ways.{clear_both, both_clear}
use Rattle.marks.specs.Parts.{closing_outcome, part_outcome}
use Rattle.marks.specs.RefusalMeaning.{FirstFault}
use Rattle.marks.proofs.Accepted.{below}
use Rattle.labelling.specs.Labels.{made_mark}
use Rattle.labelling.proofs.SameMarks.{SameBelow, closing_same}
use Rattle.labelling.proofs.Made.{Closed, lower_true, agree}
use Rattle.labelling.proofs.Settled.{settled_closed}
use Rattle.acceptance.specs.Check.{mark_of, witness_at, check_of}
use Rattle.acceptance.specs.Promise.{Cleared, ClosingMeans}
use Rattle.acceptance.proofs.Promised.{check_promise}
use Rattle.acceptance.proofs.ClosingAnswer.{closing_turn, closing_answer, right_passed}
use Rattle.maker.specs.Make.{make_of}
use Rattle.maker.proofs.Promised.{some_cycle, fits, open_answer}

module _ (rule plan table before : List ℕ) (lent : length before ≡ 4 + part_count rule * rows plan + 2 * part_count rule) (i row : ℕ) where
  -- Part i is one of the rule's, and every lower one is right.
  pub same_place : Cleared rule plan table
      → FirstFault (views_of rule) (part_count rule) plan (mark_of rule plan table) (witness_at rule plan table) i
      → (check_of rule plan table ≡ Err (Closing i row)) ↔ (make_of rule plan before ≡ Err (NoTable i row))
  same_place c fault =
      Iff.trans (closing_answer rule plan table clear c.table_clear i row fault.present passed)
      (Iff.trans (λ e. same_closing ∙ e, λ e. sym same_closing ∙ e)
      (Iff.symm (open_answer rule plan before (record { sheet = c.sheet; plan_clear = c.plan_clear; buffer = lent }) i row fault.present closed)))
    where
      clear : inputs_outcome rule plan ≡ unrefused
      clear = both_clear rule plan c.sheet c.plan_clear

      cycle : 1 ≤ cycle_rows plan
      cycle = some_cycle rule plan clear

      fit : (a : ℕ) → a < part_count rule → view_fits (channel_count rule) a (views_of rule a) ≡ true
      fit = fits rule plan clear

      few : i ≤ part_count rule
      few = let l = fault.present in omega arith

      -- the lower parts pass the check,
      passed : (a : ℕ) → a < i → part_outcome plan (mark_of rule plan table) (views_of rule a) a (witness_at rule plan table a) ≡ unrefused
      passed = right_passed rule plan table c i fault

      -- and close by the marks made,
      closed : (a : ℕ) → a < i → Closed plan cycle (views_of rule) (channel_count rule) (part_count rule) fit a
      closed = settled_closed plan cycle (views_of rule) (channel_count rule) (part_count rule) fit i few (λ a q. (fault.lower a q).settled)

      -- which are therefore theirs,
      same : SameBelow plan (made_mark (views_of rule) plan) (mark_of rule plan table) i
      same =
          agree plan cycle (views_of rule) (channel_count rule) (part_count rule) fit (made_mark (views_of rule) plan) (mark_of rule plan table) i
          (λ a q. (lower_true plan cycle (views_of rule) (channel_count rule) (part_count rule) fit i few closed a q).0)
          (λ a q. (below plan cycle (views_of rule) (channel_count rule) (part_count rule) fit (mark_of rule plan table) (witness_at rule plan table) i few passed a q).0)

      -- and by either of the two part i closes or does not.
      same_closing : closing_outcome plan (made_mark (views_of rule) plan) (views_of rule i) i ≡ closing_outcome plan (mark_of rule plan table) (views_of rule i) i
      same_closing =
          closing_same plan cycle (made_mark (views_of rule) plan) (mark_of rule plan table) i same (channel_count rule) (views_of rule i) (fit i fault.present)

  -- So where the check answers 10, the maker answers 14.
  pub closing_no_table : check_of rule plan table ≡ Err (Closing i row) → make_of rule plan before ≡ Err (NoTable i row)
  unfolding ClosingMeans
  closing_no_table e =
      let t = closing_turn rule plan table i row e in
      let inputs = clear_both rule plan t.0 in
      (same_place (record { sheet = inputs.0; plan_clear = inputs.1; table_clear = t.1 }) ((check_promise rule plan table refl).closing i row e).fault).0 e
