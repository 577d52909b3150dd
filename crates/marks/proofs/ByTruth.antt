-- Closing is said of a part's truth, whatever its own marks are: where the marks of the lower parts are their truth at every position,
-- a part closes exactly where its truth in the cycle is the same on every pass. Assumes nothing.
use Rattle.std.specs.Prelude.{Err}
use Rattle.refusal.specs.Outcome.{unrefused}
use mathlib.Core.Path.{◌≡◌, refl, sym, ap, ap₂, ◌∙◌, subst}
use mathlib.Core.Bool.{Bool, true, false, not, true≢false}
use mathlib.Core.List.{List}
use mathlib.Core.Logic.Iff
use mathlib.Core.Logic.{◌↔◌, ◌⊎◌, inl, inr}
use Prim.Native.Nat.{ℕ, zero, suc, ◌+◌, ◌*◌, ◌≤◌, ◌<◌}
use native.Mathlib.Omega.{arith}
use lib.Dec.{T, T_not}
use Rattle.cltlb.specs.Truth.{Formula, AtomHolds, Holds}
use Rattle.cltlb.specs.Views.{is_atom}
use Rattle.cltlb.specs.Nesting.{deeper_one, deeper_two}
use Rattle.cltlb.specs.Parts.{formula_from}
use Rattle.cltlb.specs.Fits.{names_lower, view_fits}
use Rattle.cltlb.specs.declared.Atom.{Atom}
use Rattle.cltlb.specs.declared.Unary.{Unary}
use Rattle.cltlb.specs.declared.Unary.TheVariants as unary
use Rattle.cltlb.specs.declared.Binary.{Binary}
use Rattle.cltlb.specs.declared.Binary.TheVariants as binary
use Rattle.cltlb.specs.declared.Operator.{Operator}
use Rattle.cltlb.specs.declared.Operator.TheVariants.{One, Two}
use Rattle.cltlb.specs.declared.View.{View}
use Rattle.cltlb.specs.declared.View.TheVariants as view
use Rattle.cltlb.proofs.Fits.{atom_fits_lem, operator_fits, one_lower, two_lower}
use Rattle.cltlb.proofs.Repeats.{RepeatsFrom, one_repeats, two_repeats}
use Rattle.refusal.specs.Lowest.{lowest_from}
use Rattle.refusal.specs.declared.Refusal.{Refusal}
use Rattle.refusal.specs.declared.Refusal.TheVariants.{Closing}
use Rattle.refusal.proofs.Lowest.{from_some}
use Rattle.refusal.proofs.First.{clear_refused, unless_refused_lem, unless_clear_t, refused_at_refused}
use Rattle.plan.specs.Layout.{start_rows, cycle_rows, rows}
use Rattle.plan.specs.Positions.{pass_of}
use Rattle.plan.specs.Run.{run_of}
use Rattle.verdict.specs.Meaning.{is_changes}
use Rattle.verdict.specs.Rows.{atom_at, verdict_of}
use Rattle.verdict.proofs.Verdicts.{is_changes_lem, same_truth}
use Rattle.marks.specs.declared.operators.Beside.{Beside}
use Rattle.marks.specs.declared.operators.Beside.TheVariants.{After, Before}
use Rattle.marks.specs.Equations.{beside_one, beside_two, beside_of, step_on, watched_truth, mark_beside}
use Rattle.marks.specs.Parts.{running, closes_by, closes, steady_outcome, closing_outcome}
use Rattle.marks.specs.Meaning.{SameOn, DiffersOn}
use Rattle.marks.proofs.Tests.{T-path, beq_t, beq_differs}
use Rattle.marks.proofs.Rows.{last_row, row_at, first_position, last_is_row, again, once_more, second_pass, on_cycle_row, after_last_row}
use Rattle.marks.proofs.Endless.{Agrees, beside_at, due}
use Rattle.marks.proofs.Temporal.{agrees_below, meets_agrees}
use Rattle.marks.proofs.Comparisons.{Judged, judged_atom, steady_iff}
use Rattle.marks.proofs.Unrolled.{RowsMet, beside_same, unrolled}
use Rattle.marks.proofs.Parts.{Right, This, Due, by_earlier, by_later, is_due, repeats}

module _ (plan : List ℕ) (F : ℕ → Type 0) where
  -- What a refusal 10 says of a part whose truth is F.
  abbrev pub Open : View → ℕ → Refusal → Type 0
  Open p i r =
      (row : ℕ) × (Closing i row ≡ r) × (start_rows plan ≤ row) × (row < rows plan) × DiffersOn plan F row
      × (is_atom p ≡ true → (q : ℕ) → start_rows plan ≤ q → q < row → SameOn plan F q)
      × (is_atom p ≡ false → row ≡ start_rows plan)

-- ---- comparisons

-- A position on a row, as a pass of the row.
as_pass : (plan : List ℕ) (h_c : 1 ≤ cycle_rows plan) (G : ℕ → Type 0) (row : ℕ) → start_rows plan ≤ row → (t : ℕ) × (row_at plan t ≡ row) × G t → (k : ℕ) × G (row + k * cycle_rows plan)
as_pass plan h_c G row low t =
    (pass_of (start_rows plan) (cycle_rows plan) t.0, subst G (on_cycle_row plan h_c row t.0 low t.1) t.2)

module _ (plan : List ℕ) (h_c : 1 ≤ cycle_rows plan) (x : Atom) (i : ℕ) (F : ℕ → Type 0) (judged : Judged plan x F) where
  -- One that does not close changes on the row named, and on no lower cycle row.
  changing : (r : Refusal) → steady_outcome plan x i ≡ Err r → Open plan F (view.Atom x) i r
  unfolding steady_outcome rows DiffersOn SameOn
  changing r e =
      let s = refused_at_refused (Closing i) (lowest_from (λ row. is_changes (verdict_of plan x row)) (start_rows plan) (cycle_rows plan)) r e in
      let at = (from_some (λ row. is_changes (verdict_of plan x row)) (start_rows plan) (cycle_rows plan) s.0).0 s.1 in
      let d = (judged.verdict s.0 at.0 at.1).changes.0 (is_changes_lem (verdict_of plan x s.0) at.2) in (
        s.0,
        s.2,
        at.0,
        at.1,
        (as_pass plan h_c F s.0 at.0 d.0, as_pass plan h_c (λ t. ¬ F t) s.0 at.0 d.1),
        λ _ q low below k.
            let l = at.1 in
            let high : q < start_rows plan + cycle_rows plan = omega arith in
            same_truth (start_rows plan) (cycle_rows plan) q F (verdict_of plan x q) (judged.verdict q low high) (at.3 q low below)
            q (q + k * cycle_rows plan) (first_position plan q high) (again plan h_c q k low ∙ first_position plan q high),
        λ operator. absurd (true≢false operator),
      )

  -- One that closes is at every position what it is on the row.
  steady_repeats : steady_outcome plan x i ≡ unrefused → RepeatsFrom (cycle_rows plan) (start_rows plan) F
  steady_repeats e t l =
      let steady = (steady_iff plan h_c x i F judged).0 e in
      let same : atom_at plan x t ≡ atom_at plan x (t + cycle_rows plan) =
      sym (steady t) ∙ ap (atom_at plan x) (sym (once_more plan h_c t l)) ∙ steady (t + cycle_rows plan) in
      (λ h. (judged.tells (t + cycle_rows plan)).0 (sym same ∙ (judged.tells t).1 h), λ h. (judged.tells t).0 (same ∙ (judged.tells (t + cycle_rows plan)).1 h))

-- ---- operators that look at the row after, or at their own row alone: they always close, and repeat with the parts that they name

before_after : {first : Bool} → Before first ≡ After → ⊥
before_after e = let z : ◌≡◌ {A = ℕ} 0 1 = cc in omega arith

one_shallow : (o : Unary) → beside_one o ≡ After → deeper_one o ≡ 0
one_shallow unary.Not e = refl
one_shallow unary.Next e = refl
one_shallow unary.Yesterday e = absurd (before_after e)
one_shallow unary.WeakYesterday e = absurd (before_after e)

two_shallow : (o : Binary) → beside_two o ≡ After → deeper_two o ≡ 0
two_shallow binary.And e = refl
two_shallow binary.Or e = refl
two_shallow binary.Until e = refl
two_shallow binary.Release e = refl
two_shallow binary.Since e = absurd (before_after e)
two_shallow binary.Trigger e = absurd (before_after e)

module _ (plan : List ℕ) (mark : ℕ → ℕ → Bool) (f : ℕ → Formula) (h_c : 1 ≤ cycle_rows plan) (i : ℕ)
    (named : (a : ℕ) → a < i → Right plan mark f a (f a)) (v : ℕ) where
  abbrev P : ℕ
  P = start_rows plan

  abbrev C : ℕ
  C = cycle_rows plan

  -- the truth of a part in the cycle is the same on every pass
  abbrev pub Repeating : View → Type 0
  Repeating p = RepeatsFrom (cycle_rows plan) (start_rows plan) (This plan mark f p)

  after_repeats : (o : Operator) → names_lower i o ≡ true → beside_of o ≡ After → Repeating (view.Operator o)
  unfolding formula_from Holds
  after_repeats (One o a) low e t h =
      subst (λ (d : ℕ). RepeatsFrom C (P + d * C) (This plan mark f (view.Operator (One o a)))) (one_shallow o e)
      (one_repeats C P h_c o (Holds (run_of plan) (f a)) (repeats plan mark f h_c i named a (one_lower i o a low) P (omega arith))) t (omega arith)
  after_repeats (Two o a b) low e t h =
      let lower = two_lower i o a b low in
      subst (λ (d : ℕ). RepeatsFrom C (P + d * C) (This plan mark f (view.Operator (Two o a b)))) (two_shallow o e)
      (two_repeats C P h_c o (Holds (run_of plan) (f a)) (Holds (run_of plan) (f b))
      (repeats plan mark f h_c i named a lower.0 P (omega arith)) (repeats plan mark f h_c i named b lower.1 P (omega arith))) t (omega arith)

  -- ---- operators that look back

  module _ (o : Operator) (first : Bool) (back : beside_of o ≡ Before first) where
    abbrev G : ℕ → Type 0
    G = This plan mark f (view.Operator o)

    -- the truth on a row, from row 0 on, and at a position that of its row
    abbrev truth : ℕ → Bool
    truth row = running mark o first row

    abbrev seen : ℕ → Bool
    seen row = watched_truth mark o (truth row) row

    abbrev own : ℕ → Bool
    own t = truth (row_at plan t)

    -- what the equation asks of row P with row W - 1 as the row before
    abbrev turned : Bool
    turned = step_on mark o P (seen (last_row plan))

    -- The truth meets the equation on the rows,
    rows_run : RowsMet plan h_c truth seen (step_on mark o) (Before first)
    unfolding running mark_beside
    rows_run zero l = refl
    rows_run (suc row) l = refl

    -- and at their first positions.
    asked : (t : ℕ) → due plan mark (view.Operator o) own t ≡ step_on mark o (row_at plan t) (beside_at (Before first) (λ s. seen (row_at plan s)) t)
    unfolding due
    asked t = ap (λ (s : Beside). step_on mark o (row_at plan t) (beside_at s (λ s. seen (row_at plan s)) t)) back

    run_due : (t : ℕ) → t < rows plan → own t ≡ due plan mark (view.Operator o) own t
    run_due t l =
        ap truth (first_position plan t l)
        ∙ rows_run t l
        ∙ ap₂ (step_on mark o) (sym (first_position plan t l)) (beside_same plan h_c truth seen (step_on mark o) (Before first) t l)
        ∙ sym (asked t)

    turned_due : due plan mark (view.Operator o) own (suc (last_row plan)) ≡ turned
    turned_due = asked (suc (last_row plan)) ∙ ap₂ (step_on mark o) (after_last_row plan h_c) (ap seen (first_position plan (last_row plan) (last_is_row plan h_c)))

    module _ (by : (t : ℕ) → ((k : ℕ) → k < t → T (own k) ↔ G k) → T (due plan mark (view.Operator o) own t) ↔ G t) where
      -- So it is the published truth on pass 0,
      first_pass : (t : ℕ) → t < rows plan → T (own t) ↔ G t
      first_pass = agrees_below G own (due plan mark (view.Operator o) own) by (rows plan) run_due

      on_pass_0 : T (truth P) ↔ G (P + 0 * C)
      unfolding rows
      on_pass_0 =
          let here : P < P + C = omega arith in
          let zeroth : P ≡ P + 0 * C = omega arith in
          subst (λ (t : ℕ). T (truth P) ↔ G t) zeroth (Iff.trans (T-path (ap truth (sym (first_position plan P here)))) (first_pass P here))

      -- and what the equation asks of row P is it on pass 1.
      on_pass_1 : T turned ↔ G (P + 1 * C)
      on_pass_1 =
          subst (λ (t : ℕ). T turned ↔ G t) (second_pass plan h_c)
          (Iff.trans (T-path (sym turned_due)) (by (suc (last_row plan)) (λ k l. first_pass k (omega (arith, last_is_row plan h_c)))))

      -- Where the two differ, the published truth does.
      differs : (T (truth P) × T (not turned)) ⊎ (T (not (truth P)) × T turned) → DiffersOn plan G P
      unfolding DiffersOn
      differs (inl d) = ((0, on_pass_0.0 d.0), (1, λ h. T_not turned d.1 (on_pass_1.1 h)))
      differs (inr d) = ((1, on_pass_1.0 d.1), (0, λ h. T_not (truth P) d.0 (on_pass_0.1 h)))

      -- Where they are one, the truth on the rows is the published truth at every position.
      everywhere : truth P ≡ turned → Agrees own G
      everywhere closed =
          (meets_agrees G own (due plan mark (view.Operator o) own) by).0
          (λ t. (unrolled plan h_c truth seen (step_on mark o) (Before first)).0 (rows_run, closed) t ∙ sym (asked t))

      back_repeats : truth P ≡ turned → Repeating (view.Operator o)
      back_repeats closed t l =
          let all = everywhere closed in
          Iff.trans (Iff.symm (all t)) (Iff.trans (T-path (ap truth (sym (once_more plan h_c t l)))) (all (t + C)))

  -- ---- every part

  -- 10: the truth of the part is not the same on all passes of the row.
  atom_open : (x : Atom) → view_fits v i (view.Atom x) ≡ true → (r : Refusal) → closing_outcome plan mark (view.Atom x) i ≡ Err r
      → Open plan (This plan mark f (view.Atom x)) (view.Atom x) i r
  unfolding closing_outcome formula_from Holds
  atom_open x fits r e = changing plan h_c x i (AtomHolds (run_of plan) x) (judged_atom plan h_c v x (atom_fits_lem v i x fits)) r e

  operator_open : (o : Operator) → view_fits v i (view.Operator o) ≡ true → (r : Refusal) → closing_outcome plan mark (view.Operator o) i ≡ Err r
      → Open plan (This plan mark f (view.Operator o)) (view.Operator o) i r
  unfolding closing_outcome closes closes_by rows
  operator_open o fits r e =
      (P, u.1, omega arith, omega arith, go (beside_of o) refl (is_due plan mark f h_c i named v (view.Operator o) fits), λ atom q low below. absurd (true≢false (sym atom)), λ _. refl)
    where
      u : (closes P C mark o ≡ false) × (Closing i P ≡ r)
      u = unless_refused_lem (closes P C mark o) (Closing i P) r e

      go : (s : Beside) → beside_of o ≡ s → Due plan mark f (view.Operator o) i → DiffersOn plan (This plan mark f (view.Operator o)) P
      go After d _ = absurd (true≢false (sym (ap (λ (s : Beside). closes_by P C mark s o) d) ∙ u.0))
      go (Before first) d (by_earlier by) =
          differs o first d (by (own o first d)) (beq_differs (truth o first d P) (turned o first d) (sym (ap (λ (s : Beside). closes_by P C mark s o) d) ∙ u.0))
      go (Before first) d (by_later kind by later shut decides) = absurd (clear_refused (sym e ∙ shut))

  pub closing_open : (p : View) → view_fits v i p ≡ true → (r : Refusal) → closing_outcome plan mark p i ≡ Err r
      → Open plan (This plan mark f p) p i r
  closing_open (view.Atom x) = atom_open x
  closing_open (view.Operator o) = operator_open o

  -- A part that closes: its truth is the same on all passes of every cycle row.
  atom_closed : (x : Atom) → view_fits v i (view.Atom x) ≡ true → closing_outcome plan mark (view.Atom x) i ≡ unrefused → Repeating (view.Atom x)
  unfolding closing_outcome formula_from Holds
  atom_closed x fits e = steady_repeats plan h_c x i (AtomHolds (run_of plan) x) (judged_atom plan h_c v x (atom_fits_lem v i x fits)) e

  operator_closed : (o : Operator) → view_fits v i (view.Operator o) ≡ true → closing_outcome plan mark (view.Operator o) i ≡ unrefused → Repeating (view.Operator o)
  unfolding closing_outcome closes closes_by
  operator_closed o fits e = go (beside_of o) refl (is_due plan mark f h_c i named v (view.Operator o) fits)
    where
      closed : T (closes P C mark o)
      closed = (unless_clear_t (closes P C mark o) (Closing i P)).0 e

      go : (s : Beside) → beside_of o ≡ s → Due plan mark f (view.Operator o) i → Repeating (view.Operator o)
      go After d _ = after_repeats o (operator_fits v i o fits) d
      go (Before first) d (by_earlier by) =
          back_repeats o first d (by (own o first d))
          ((beq_t (truth o first d P) (turned o first d)).0 (subst T (ap (λ (s : Beside). closes_by P C mark s o) d) closed))
      go (Before first) d (by_later kind by later shut decides) = later

  pub closing_repeats : (p : View) → view_fits v i p ≡ true → closing_outcome plan mark p i ≡ unrefused → Repeating p
  closing_repeats (view.Atom x) = atom_closed x
  closing_repeats (view.Operator o) = operator_closed o
