-- Sweeps over one stretch, put together. Assumes nothing.
use Prim.Native.Nat.{ℕ, zero, suc}
use mathlib.Core.Path.{◌≡◌, refl, sym, ap, ap₂, ◌∙◌}
use mathlib.Core.Bool.{Bool, true, false, not, ◌&&◌, beq}
use mathlib.Core.List.{List}
use Rattle.table.specs.inner.Tables.{all_below}
use Rattle.table.proofs.AllBelow.{all_ext}
use Rattle.verdict.specs.Lines.{judge_equal}
use Rattle.verdict.specs.declared.Relation.{Relation}
use Rattle.verdict.specs.declared.Relation.TheVariants.{Same, Pinned}
use Rattle.lanes.specs.declared.columns.Column.{Column}
use Rattle.lanes.specs.inner.Agreement.{stays, values_agree, lines_agree}
use Rattle.lanes.specs.inner.Columns.{line_in}
use Rattle.lanes.proofs.Comparing.{equal_agrees}

-- What was found by the case of a relation.
module _ (values : List ℕ) (x y : Column) (mark : ℕ → Bool) (n : ℕ) {relation r : Relation} (e : relation ≡ r) {b : Bool} where
  pub values_by : b ≡ all_below (λ k. values_agree r values x y (mark k) k) n → b ≡ all_below (λ k. values_agree relation values x y (mark k) k) n
  values_by h = rw e h

  pub lines_by : (drifts : List ℕ) → b ≡ all_below (λ k. lines_agree r values drifts x y (mark k) k) n → b ≡ all_below (λ k. lines_agree relation values drifts x y (mark k) k) n
  lines_by drifts h = rw e h

-- No number is pinned, so that no mark says so.
is_not : (b : Bool) → not b ≡ beq b false
is_not true = refl
is_not false = refl

module _ (values : List ℕ) (x y : Column) (mark : ℕ → Bool) (n : ℕ) {relation : Relation} (e : relation ≡ Pinned) {b : Bool} (h : b ≡ all_below (λ k. not (mark k)) n) where
  pub values_none : b ≡ all_below (λ k. values_agree relation values x y (mark k) k) n
  values_none = rw e (h ∙ all_ext _ _ n (λ k _. is_not (mark k)))

  pub lines_none : (drifts : List ℕ) → b ≡ all_below (λ k. lines_agree relation values drifts x y (mark k) k) n
  lines_none drifts = rw e h

-- Two tests of all rows are one test of all rows.
four : (a b c d : Bool) → ((a && b) && (c && d)) ≡ ((a && c) && (b && d))
four false b c d = refl
four true false false d = refl
four true false true d = refl
four true true c d = refl

all_both : (f g h : ℕ → Bool) → ((k : ℕ) → (f k && g k) ≡ h k) → (n : ℕ) → (all_below f n && all_below g n) ≡ all_below h n
unfolding all_below
all_both f g h e zero = refl
all_both f g h e (suc n) = four (all_below f n) (f n) (all_below g n) (g n) ∙ ap₂ ◌&&◌ (all_both f g h e n) (e n)

-- Equality of two lines on every pass: at first, and then no change.
module _ (values drifts : List ℕ) (x y : Column) (mark : ℕ → Bool) (n : ℕ) {relation : Relation} (e : relation ≡ Same) {first : Bool}
    (f : first ≡ all_below (λ k. values_agree Same values x y (mark k) k) n) where
  same_lines : {later : Bool} → later ≡ all_below (λ k. stays (judge_equal (line_in values drifts x k) (line_in values drifts y k))) n
      → (first && later) ≡ all_below (λ k. lines_agree relation values drifts x y (mark k) k) n
  same_lines g =
      ap₂ ◌&&◌ f g
      ∙ all_both _ _ _ (λ k. equal_agrees (line_in values drifts x k) (line_in values drifts y k) (mark k)) n
      ∙ ap (λ (r : Relation). all_below (λ k. lines_agree r values drifts x y (mark k) k) n) (sym e)

  pub same_then : {later : Bool} → first ≡ true → later ≡ all_below (λ k. stays (judge_equal (line_in values drifts x k) (line_in values drifts y k))) n
      → later ≡ all_below (λ k. lines_agree relation values drifts x y (mark k) k) n
  same_then {later} t g = sym (ap (λ (b : Bool). b && later) t) ∙ same_lines g

  pub same_not : first ≡ false → false ≡ all_below (λ k. lines_agree relation values drifts x y (mark k) k) n
  same_not t = sym (ap (λ (b : Bool). b && all_below (λ k. stays (judge_equal (line_in values drifts x k) (line_in values drifts y k))) n) t) ∙ same_lines refl
