-- Two plans of one run, the second with its cycle a pass later: what closes on the first closes on the second, with the same marks
-- at the same positions. Assumes nothing.
use mathlib.Core.Path.{◌≡◌, sym, ap, ◌∙◌}
use mathlib.Core.Bool.{true}
use mathlib.Core.List.{List}
use mathlib.Core.Logic.Iff
use Prim.Native.Nat.{ℕ, ◌+◌, ◌-◌, ◌≤◌, ◌<◌}
use native.Mathlib.Omega.{arith}
use lib.IntN.{ℤ}
use Rattle.cltlb.specs.Fits.{view_fits}
use Rattle.cltlb.specs.declared.View.{View}
use Rattle.cltlb.proofs.Repeats.{repeats_later}
use Rattle.plan.specs.Layout.{start_rows, cycle_rows, rows}
use Rattle.plan.specs.Positions.{row_of}
use Rattle.plan.specs.Run.{run_of}
use Rattle.marks.specs.Meaning.{Truth, PartSettled}
use Rattle.marks.proofs.Rows.{row_at, first_position, once_more}
use Rattle.marks.proofs.Tests.{T-path, T-ext}
use Rattle.marks.proofs.Repeating.{settled_repeats}
use Rattle.labelling.specs.Labels.{made_mark}
use Rattle.labelling.proofs.Made.{Closed, lower_true}
use Rattle.labelling.proofs.Settled.{closed_settled, settled_closed}
use Rattle.settling.proofs.OneRun.{other_cycle, run_truth, run_settled}

module _ (A B : List ℕ) (some_cycle : 1 ≤ cycle_rows A) (same_cycle : cycle_rows B ≡ cycle_rows A)
    (pass_later : start_rows B ≡ start_rows A + cycle_rows A) (parts : ℕ → View) (v n : ℕ)
    (fits : (i : ℕ) → i < n → view_fits v i (parts i) ≡ true)
    (same_run_lem : (c : ℕ) → c < v → (t : ℤ) → run_of B c t ≡ run_of A c t) where
  -- The second plan has cycle rows as well.
  pub later_cycle : 1 ≤ cycle_rows B
  later_cycle = other_cycle A B some_cycle same_cycle parts v n fits same_run_lem

  -- A part that is settled on the first plan is settled on the second.
  pub later_settled : (i : ℕ) → i < n → PartSettled parts A i → PartSettled parts B i
  later_settled i l settled =
      (run_settled A B some_cycle same_cycle parts v n fits same_run_lem i l).1
      (repeats_later (cycle_rows A) (start_rows A) (Truth parts A i) ((settled_repeats parts A some_cycle i).0 settled) (start_rows B) (omega arith))

  -- The parts below i, which close on the first plan.
  module _ (i : ℕ) (few : i ≤ n) (closed : (a : ℕ) → a < i → Closed A some_cycle parts v n fits a) where
    -- They close on the second.
    pub later_closed : (a : ℕ) → a < i → Closed B later_cycle parts v n fits a
    later_closed =
        settled_closed B later_cycle parts v n fits i few
        (λ a l. later_settled a (omega arith) (closed_settled A some_cycle parts v n fits i few closed a l))

    -- Their marks on a row of the second are those on the row of the first at that position.
    pub later_marks : (a row : ℕ) → a < i → row < rows B
        → made_mark parts B a row ≡ made_mark parts A a (row_of (start_rows A) (cycle_rows A) row)
    later_marks a row l q =
        T-ext (made_mark parts B a row) (made_mark parts A a (row_at A row))
        (Iff.trans (T-path (ap (made_mark parts B a) (sym (first_position B row q))))
        (Iff.trans ((lower_true B later_cycle parts v n fits i few later_closed a l).0 row)
        (Iff.trans (run_truth A B some_cycle same_cycle parts v n fits same_run_lem a (omega arith) row)
        (Iff.symm ((lower_true A some_cycle parts v n fits i few closed a l).0 row)))))

    -- So they are those of the first on its rows,
    pub later_kept : (a row : ℕ) → a < i → row < rows A → made_mark parts B a row ≡ made_mark parts A a row
    unfolding rows
    later_kept a row l q = later_marks a row l (omega arith) ∙ ap (made_mark parts A a) (first_position A row q)

    -- and on the pass more those of the pass before.
    pub later_again : (a row : ℕ) → a < i → rows A ≤ row → row < rows B → made_mark parts B a row ≡ made_mark parts A a (row - cycle_rows A)
    unfolding rows
    later_again a row l h q =
        let back : row - cycle_rows A + cycle_rows A ≡ row = omega arith in
        later_marks a row l q
        ∙ ap (λ (t : ℕ). made_mark parts A a (row_at A t)) (sym back)
        ∙ ap (made_mark parts A a) (once_more A some_cycle (row - cycle_rows A) (omega arith) ∙ first_position A (row - cycle_rows A) (omega arith))
