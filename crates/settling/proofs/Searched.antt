-- The search for the fewest passes after which every part closes: what one layout says, by its parts, and how the search ends.
-- Assumes nothing.
use Rattle.std.specs.Prelude.{Ok, Err}
use Prim.Native.Nat.{ℕ, ◌+◌, ◌≤◌, ◌<◌}
use native.Mathlib.Decide.{dec_lt}
use native.Mathlib.Omega.{arith}
use mathlib.Core.Path.{◌≡◌, refl, ap₂, subst}
use mathlib.Core.Bool.{true, false, ◌&&◌}
use mathlib.Core.List.{List}
use mathlib.Core.Option.{none, some}
use mathlib.Core.Logic.Iff
use mathlib.Core.Logic.{◌↔◌, by_cases}
use Rattle.cltlb.specs.Fits.{view_fits}
use Rattle.refusal.specs.Outcome.{Outcome, unrefused}
use Rattle.refusal.proofs.First.{clear_refused, in_turn_clear}
use Rattle.refusal.proofs.Lowest.{true_false, not_so, lowest_none, lowest_some}
use Rattle.rule.specs.Layout.{part_count}
use Rattle.rule.specs.Take.{views_of}
use Rattle.plan.specs.Layout.{cycle_rows}
use Rattle.plan.proofs.Fits.{both}
use Rattle.laid_out.specs.LaidOut.{laid_out, can_be_laid}
use Rattle.laid_out.proofs.CanBeLaid.{passes_few, fewer_fit}
use Rattle.marks.specs.Parts.{closing_outcome}
use Rattle.labelling.specs.Labels.{made_mark}
use Rattle.labelling.proofs.Made.{Closed}
use Rattle.maker.specs.Make.{open_outcome, closings_outcome}
use Rattle.maker.proofs.Promised.{no_table_clear}
use Rattle.settling.specs.Settle.{is_clear, settles_after, fewest_passes}
use Rattle.settling.specs.inner.Scratch.{closes_on}

-- ---- tests

-- The test whether an outcome refuses nothing.
pub is_clear_lem : (o : Outcome) → (is_clear o ≡ true) ↔ (o ≡ unrefused)
is_clear_lem (Ok _) = (λ _. refl, λ _. refl)
is_clear_lem (Err r) = (λ e. absurd (true_false e refl), λ e. absurd (clear_refused e))

-- ---- the parts of one layout

module _ (rule layout : List ℕ) where
  -- A part closes, by the test, exactly where it does by the marks made.
  pub closed_as : (some_cycle : 1 ≤ cycle_rows layout) (v n : ℕ) (fits : (i : ℕ) → i < n → view_fits v i (views_of rule i) ≡ true) (i : ℕ)
      → (closes_on rule layout i ≡ true) ↔ Closed layout some_cycle (views_of rule) v n fits i
  closed_as some_cycle v n fits i = is_clear_lem (closing_outcome layout (made_mark (views_of rule) layout) (views_of rule i) i)

  -- 14 refuses nothing exactly where every part closes.
  pub parts_closed : (closings_outcome rule layout ≡ unrefused) ↔ ((i : ℕ) → i < part_count rule → closes_on rule layout i ≡ true)
  unfolding closings_outcome open_outcome
  parts_closed = Iff.trans (in_turn_clear (open_outcome rule layout) (part_count rule)) (λ h i l. (one i).0 (h i l), λ h i l. (one i).1 (h i l))
    where
      one : (i : ℕ) → (open_outcome rule layout i ≡ unrefused) ↔ (closes_on rule layout i ≡ true)
      one i =
          Iff.trans (no_table_clear (closing_outcome layout (made_mark (views_of rule) layout) (views_of rule i) i))
          (Iff.symm (is_clear_lem (closing_outcome layout (made_mark (views_of rule) layout) (views_of rule i) i)))

module _ (rule plan : List ℕ) where
  -- k passes settle exactly where they can be laid out and 14 refuses nothing.
  pub settles_as : (k : ℕ) → (settles_after rule plan k ≡ true) ↔ ((can_be_laid plan k ≡ true) × (closings_outcome rule (laid_out plan k) ≡ unrefused))
  unfolding settles_after
  settles_as k = (
    λ e. let p = both (can_be_laid plan k) (is_clear (closings_outcome rule (laid_out plan k))) e in (p.0, (is_clear_lem (closings_outcome rule (laid_out plan k))).0 p.1),
    λ p. ap₂ ◌&&◌ p.0 ((is_clear_lem (closings_outcome rule (laid_out plan k))).1 p.1),
  )

  -- ---- one layout of the search

  module _ (k : ℕ) where
    -- Where a part does not close, k passes do not settle;
    pub part_open : (i : ℕ) → i < part_count rule → closes_on rule (laid_out plan k) i ≡ false → settles_after rule plan k ≡ false
    part_open i l e =
        not_so (settles_after rule plan k) (λ s. true_false ((parts_closed rule (laid_out plan k)).0 ((settles_as k).0 s).1 i l) e)

    -- where all parts close, they do.
    pub all_closed : can_be_laid plan k ≡ true → ((i : ℕ) → i < part_count rule → closes_on rule (laid_out plan k) i ≡ true) → settles_after rule plan k ≡ true
    all_closed can closed = (settles_as k).1 (can, (parts_closed rule (laid_out plan k)).1 closed)

    -- What cannot be laid out does not settle.
    pub not_laid : can_be_laid plan k ≡ false → settles_after rule plan k ≡ false
    not_laid e = not_so (settles_after rule plan k) (λ s. true_false ((settles_as k).0 s).0 e)

  -- ---- the layouts so far

  -- Before the first layout,
  pub none_yet : (m : ℕ) → m < 0 → settles_after rule plan m ≡ false
  none_yet m l = absurd (omega arith)

  module _ (k : ℕ) (so_far : (m : ℕ) → m < k → settles_after rule plan m ≡ false) where
    -- and after one that does not settle.
    pub none_next : settles_after rule plan k ≡ false → (m : ℕ) → m < k + 1 → settles_after rule plan m ≡ false
    none_next e m l =
        by_cases (dec_lt m k) (so_far m) (λ q. let same : k ≡ m = omega arith in subst (λ (x : ℕ). settles_after rule plan x ≡ false) same e)

    -- FOUND: the first layout that settles is the one of the fewest passes.
    pub search_found : 1 ≤ cycle_rows plan → settles_after rule plan k ≡ true → fewest_passes rule plan ≡ some k
    unfolding fewest_passes
    search_found some_cycle e =
        (lowest_some (settles_after rule plan) 256 k).1 (passes_few plan k some_cycle ((settles_as k).0 e).0, e, so_far)

    -- NOT FOUND: what cannot be laid out with k passes cannot be with more.
    pub search_ended : can_be_laid plan k ≡ false → fewest_passes rule plan ≡ none
    unfolding fewest_passes
    search_ended e =
        (lowest_none (settles_after rule plan) 256).1 (λ m l.
        by_cases (dec_lt m k) (so_far m)
        (λ q. not_so (settles_after rule plan m) (λ s. true_false (fewer_fit plan k m (omega arith) ((settles_as m).0 s).0) e)))
