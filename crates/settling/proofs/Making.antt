-- The marks in the scratch, part after part, on the rows of a layout: what a part that was tried adds to them. Assumes nothing.
use Prim.Native.Nat.{ℕ, ◌+◌, ◌≤◌, ◌<◌}
use native.Mathlib.Decide.{dec_lt}
use native.Mathlib.Omega.{arith}
use mathlib.Core.Path.{◌≡◌, sym, ap, ◌∙◌, subst}
use mathlib.Core.Bool.{Bool, true}
use mathlib.Core.List.{List}
use mathlib.Core.Logic.{by_cases}
use Rattle.cltlb.specs.Fits.{view_fits}
use Rattle.cltlb.specs.declared.View.{View}
use Rattle.rule.specs.Take.{views_of}
use Rattle.plan.specs.Layout.{cycle_rows, rows}
use Rattle.words.specs.inner.Words.{mark_at}
use Rattle.marks.specs.Parts.{closing_outcome}
use Rattle.labelling.specs.Labels.{label_of, made_mark}
use Rattle.labelling.proofs.SameMarks.{label_same, closing_same}
use Rattle.labelling.proofs.Made.{made_labelled}
use Rattle.settling.specs.Settle.{is_clear}
use Rattle.settling.specs.inner.Scratch.{PartTried, MadeTo, closes_on}

module _ (rule layout : List ℕ) (h_c : 1 ≤ cycle_rows layout) (v n : ℕ)
    (fits : (i : ℕ) → i < n → view_fits v i (views_of rule i) ≡ true) where
  module _ (i : ℕ) (l : i < n) {p : View} (is : views_of rule i ≡ p) {old new : List ℕ} (made : MadeTo rule layout old i) {b : Bool}
      (tried : PartTried layout old new i p b) where
    -- It closes by the marks in the scratch as it does by the marks made.
    pub tried_closes : b ≡ closes_on rule layout i
    tried_closes =
        tried.outcome
        ∙ ap (λ (q : View). is_clear (closing_outcome layout (mark_at old) q i)) (sym is)
        ∙ ap is_clear (sym (closing_same layout h_c (made_mark (views_of rule) layout) (mark_at old) i made.marks v (views_of rule i) (fits i l)))

    -- The lower parts are made as before,
    pub tried_lower : MadeTo rule layout new i
    tried_lower = record {
      room = tried.long ∙ made.room;
      marks = λ a q row r. made.marks a q row r ∙ sym (tried.lower a q row);
    }

    -- and where it closes, it is too.
    pub tried_made : b ≡ true → MadeTo rule layout new (i + 1)
    tried_made e = record {
      room = tried_lower.room;
      marks = λ a q row r. by_cases (dec_lt a i)
          (λ s. tried_lower.marks a s row r)
          (λ s. let same : i ≡ a = omega arith in subst (λ (c : ℕ). made_mark (views_of rule) layout c row ≡ mark_at new c row) same (own row r));
    }
      where
        own : (row : ℕ) → row < rows layout → made_mark (views_of rule) layout i row ≡ mark_at new i row
        own row r =
            made_labelled layout h_c (views_of rule) v n fits i l row r
            ∙ label_same layout h_c (made_mark (views_of rule) layout) (mark_at old) i made.marks v (views_of rule i) (fits i l) row r
            ∙ ap (λ (q : View). label_of layout (mark_at old) q row) is
            ∙ sym (tried.made e row r)
