-- What refusal 9 of one part says of its truth, where the marks of the lower parts are their truth at every position. Assumes
-- nothing.
use Rattle.std.specs.Prelude.{Err}
use Rattle.refusal.specs.Outcome.{unrefused}
use mathlib.Core.Path.{◌≡◌, sym, ap, ◌∙◌, subst, subst₂}
use mathlib.Core.Bool.{Bool, true}
use mathlib.Core.List.{List}
use mathlib.Core.Logic.Iff
use mathlib.Core.Logic.{◌↔◌, by_cases}
use Prim.Native.Nat.{ℕ, suc, ◌+◌, ◌≤◌, ◌<◌}
use native.Mathlib.Decide.{dec_lt}
use native.Mathlib.Omega.{arith}
use lib.Dec.{T}
use Rattle.cltlb.specs.Truth.{Formula}
use Rattle.cltlb.specs.Fits.{view_fits}
use Rattle.cltlb.specs.declared.View.{View}
use Rattle.refusal.specs.Lowest.{lowest_from, lowest}
use Rattle.refusal.specs.First.{at_lowest}
use Rattle.refusal.specs.declared.Refusal.{Refusal}
use Rattle.refusal.specs.declared.Refusal.TheVariants.{Equation}
use Rattle.refusal.proofs.Lowest.{from_some}
use Rattle.refusal.proofs.First.{clear_refused, refused_at_refused}
use Rattle.plan.specs.Layout.{start_rows, cycle_rows, rows}
use Rattle.plan.specs.Positions.{after}
use Rattle.marks.specs.Parts.{breaks, equation_outcome, closing_outcome}
use Rattle.marks.proofs.Tests.{T-path, T-ext, beq_false, beq-true}
use Rattle.marks.proofs.Rows.{row_at, first_position, once_more, after_row_lem}
use Rattle.marks.proofs.Endless.{mark_at, due}
use Rattle.marks.proofs.Temporal.{agrees_below}
use Rattle.marks.proofs.Unrolled.{equation_clear, expected_on, expected_due}
use Rattle.marks.proofs.Parts.{Right, This, Ahead, Due, by_earlier, by_later, is_due}

module _ (plan : List ℕ) (mark : ℕ → ℕ → Bool) (f : ℕ → Formula) (h_c : 1 ≤ cycle_rows plan) (i : ℕ)
    (named : (a : ℕ) → a < i → Right plan mark f a (f a)) (v : ℕ) (p : View) (fits : view_fits v i p ≡ true) where
  abbrev F : ℕ → Type 0
  F = This plan mark f p

  -- its marks at the positions
  abbrev own : ℕ → Bool
  own = mark_at plan mark i

  -- The mark on a row is the truth at the row's first position.
  abbrev pub TrueOn : ℕ → Type 0
  TrueOn row = T (mark i row) ↔ F row

  -- The mark at the row's first position is that on the row.
  on_row : (row : ℕ) → row < rows plan → T (mark_at plan mark i row) ↔ F row → TrueOn row
  on_row row l h = Iff.trans (T-path (ap (mark i) (sym (first_position plan row l)))) h

  -- Of every kind but U and R: where the equation is met on the rows below m, the marks there are true.
  true_below : ((t : ℕ) → ((k : ℕ) → k < t → T (mark_at plan mark i k) ↔ F k) → T (due plan mark p own t) ↔ F t)
      → (m : ℕ) → m ≤ rows plan → ((k : ℕ) → k < m → mark i k ≡ expected_on plan mark p i k) → (k : ℕ) → k < m → T (mark_at plan mark i k) ↔ F k
  true_below by m few met =
      agrees_below F own (due plan mark p own) by m
      (λ t l. ap (mark i) (first_position plan t (omega arith)) ∙ met t l ∙ expected_due plan mark h_c p i t (omega arith))

  -- Of U and R: where the mark on the row after is true there, it is true at the next position.
  true_after : ((t : ℕ) → start_rows plan ≤ t → F t ↔ F (t + cycle_rows plan)) → (row : ℕ) → row < rows plan
      → TrueOn (after (start_rows plan) (cycle_rows plan) row) → T (mark_at plan mark i (suc row)) ↔ F (suc row)
  unfolding rows
  true_after later row l h =
      Iff.trans (T-path (ap (mark i) (sym next))) (Iff.trans h (by_cases (dec_lt (suc row) (start_rows plan + cycle_rows plan)) inside outside))
    where
      next : after (start_rows plan) (cycle_rows plan) row ≡ row_at plan (suc row)
      next = after_row_lem plan h_c row l

      inside : suc row < start_rows plan + cycle_rows plan → F (after (start_rows plan) (cycle_rows plan) row) ↔ F (suc row)
      inside q = subst (λ (x : ℕ). F x ↔ F (suc row)) (sym (next ∙ first_position plan (suc row) q)) Iff.rfl

      outside : ¬ (suc row < start_rows plan + cycle_rows plan) → F (after (start_rows plan) (cycle_rows plan) row) ↔ F (suc row)
      outside q =
          let end : start_rows plan + cycle_rows plan ≡ suc row = omega arith in
          let start : row_at plan (suc row) ≡ start_rows plan =
          ap (row_at plan) (sym end) ∙ once_more plan h_c (start_rows plan) (omega arith) ∙ first_position plan (start_rows plan) (omega arith) in
          subst₂ (λ (x y : ℕ). F x ↔ F y) (sym (next ∙ start)) end (later (start_rows plan) (omega arith))

  -- A part that meets its equation on the rows and does not close, which is none of U and R, has true marks.
  pub met_open : equation_outcome plan mark p i ≡ unrefused → (r : Refusal) → closing_outcome plan mark p i ≡ Err r → (row : ℕ) → row < rows plan → TrueOn row
  met_open met r e row l = go (is_due plan mark f h_c i named v p fits)
    where
      go : Due plan mark f p i → TrueOn row
      go (by_earlier by) = on_row row l (true_below (by own) (rows plan) (omega arith) ((equation_clear plan mark p i).0 met) row l)
      go (by_later kind by later shut decides) = absurd (clear_refused (sym e ∙ shut))

  -- A mark that breaks its equation, the lower ones meeting it.
  module _ (row : ℕ) (l : row < rows plan) (lower : (k : ℕ) → k < row → mark i k ≡ expected_on plan mark p i k) (broken : mark i row ≡ expected_on plan mark p i row → ⊥) where
    -- it is not the truth, if what is due there is
    not_due : T (due plan mark p own row) ↔ F row → ¬ TrueOn row
    not_due d h =
        broken (T-ext (mark i row) (expected_on plan mark p i row)
        (Iff.trans h (Iff.trans (Iff.symm d) (T-path (sym (expected_due plan mark h_c p i row l))))))

    false_here : Due plan mark f p i → ¬ Ahead plan mark f p → ¬ TrueOn row
    false_here (by_earlier by) other = not_due (by own row (true_below (by own) row (omega arith) lower))
    false_here (by_later kind by later closes decides) other = absurd (other kind)

    true_lower : Due plan mark f p i → ¬ Ahead plan mark f p → (q : ℕ) → q < row → TrueOn q
    true_lower (by_earlier by) other q h = on_row q (omega arith) (true_below (by own) row (omega arith) lower q h)
    true_lower (by_later kind by later closes decides) other q h = absurd (other kind)

    false_beside : Due plan mark f p i → ¬ (TrueOn row × TrueOn (after (start_rows plan) (cycle_rows plan) row))
    false_beside (by_earlier by) h = not_due (by own row (true_below (by own) row (omega arith) lower)) h.0
    false_beside (by_later kind by later closes decides) h = not_due (by row (true_after later row l h.1)) h.0

  -- What a refusal 9 says of the part.
  abbrev pub Broken : Refusal → Type 0
  Broken r =
      (row : ℕ) × (Equation i row ≡ r) × (row < rows plan) × (¬ Ahead plan mark f p → ¬ TrueOn row)
      × (¬ (TrueOn row × TrueOn (after (start_rows plan) (cycle_rows plan) row))) × (¬ Ahead plan mark f p → (q : ℕ) → q < row → TrueOn q)

  pub equation_broken : (r : Refusal) → equation_outcome plan mark p i ≡ Err r → Broken r
  unfolding equation_outcome at_lowest lowest breaks
  equation_broken r e =
      let s = refused_at_refused (Equation i) (lowest_from (breaks plan mark p i) 0 (rows plan)) r e in
      let at = (from_some (breaks plan mark p i) 0 (rows plan) s.0).0 s.1 in
      let high = at.1 in
      let l : s.0 < rows plan = omega arith in
      let lower : (k : ℕ) → k < s.0 → mark i k ≡ expected_on plan mark p i k =
      λ k q. (beq_false (mark i k) (expected_on plan mark p i k)).0 (at.3 k (omega arith) q) in
      let broken = beq-true (mark i s.0) (expected_on plan mark p i s.0) at.2 in
      let kind = is_due plan mark f h_c i named v p fits in
      (s.0, s.2, l, false_here s.0 l lower broken kind, false_beside s.0 l lower broken kind, true_lower s.0 l lower broken kind)
