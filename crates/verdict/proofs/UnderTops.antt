-- The verdict on two lines with tops is right on every pass, of what is seen of them. Assumes nothing.
use Prim.Native.Nat.{ℕ, zero, suc, ◌+◌}
use native.Mathlib.Omega.{arith}
use mathlib.Core.Path.{◌≡◌, refl, sym, ap, ◌∙◌}
use mathlib.Core.Bool.{Bool, true, false, cond, not, ◌&&◌, false≢true}
use mathlib.Core.Logic.Iff
use mathlib.Core.Logic.{◌↔◌}
use lib.Dec.{eqb-suc-zero}
use lib.IntN.{ℤ, pos, ◌+ℤ◌, +ℤ_idr, *ℤ-zero}
use lib.Signed.{lt_z, le_z}
use borrow.Author.Tests.{ne_eqb}
use Rattle.cltlb.specs.Run.{is_top, is_pinned, under}
use Rattle.cltlb.specs.Truth.{Compared}
use Rattle.fields.specs.inner.Biased.{bias}
use Rattle.fields.proofs.Differences.{sub_pos}
use Rattle.plan.specs.inner.Lifted.{value_bias}
use Rattle.verdict.specs.Lines.{Line, on_pass, level}
use Rattle.verdict.specs.Comparisons.{judge_lines}
use Rattle.verdict.specs.Stretches.{all_passes, no_pass, is_all, has_pass, common, passes_below, passes_at_most, passes_same}
use Rattle.verdict.specs.Tops.{passes_free, passes_pinned, some_on, judge_on, judge_pinned, judge_free, judge_under}
use Rattle.verdict.specs.declared.stretches.Stretch.{Stretch}
use Rattle.verdict.specs.declared.stretches.Stretch.TheVariants.{From, Between}
use Rattle.verdict.specs.declared.Relation.{Relation}
use Rattle.verdict.specs.declared.Relation.TheVariants.{Below, Same, Within, Pinned}
use Rattle.verdict.specs.declared.Verdict.{Verdict}
use Rattle.verdict.specs.declared.Verdict.TheVariants.{AlwaysTrue, AlwaysFalse, Changes}
use Rattle.verdict.proofs.Passes.{PassMeans, means_iff}
use Rattle.verdict.proofs.Decisions.{Decides, lt_decides, le_test, Judges, lifted}
use Rattle.verdict.proofs.PassesBelow.{Lies, has_pass_lem, common_lies, common_has, below_lies, at_most_lies, same_lies}
use Rattle.verdict.proofs.SomePasses.{some_within_lem}
use Rattle.verdict.proofs.Relations.{Relates, SeenRelates, numbers_under, pinned_under, judges}

-- ---- the passes on which a line is pinned and not pinned

pub level_stays : (z : ℤ) (k : ℕ) → on_pass (level z) k ≡ z
unfolding on_pass
level_stays z k = ap (λ y. z +ℤ y) (*ℤ-zero (pos k)) ∙ +ℤ_idr z

-- A test and the other one.
not-true : (b : Bool) → (b ≡ true) ↔ (not b ≡ false)
not-true true = (λ _. refl, λ _. refl)
not-true false = (λ e. absurd (false≢true e), λ e. absurd (false≢true (sym e)))

not-false : (b : Bool) → (b ≡ false) ↔ (not b ≡ true)
not-false true = (λ e. absurd (false≢true (sym e)), λ e. absurd (false≢true e))
not-false false = (λ _. refl, λ _. refl)

module _ (top : ℤ) (x : Line) (k : ℕ) where
  free_lies : Lies (passes_free top x) k ↔ (is_pinned top (on_pass x k) ≡ false)
  unfolding passes_free is_pinned Lies Decides
  free_lies = by_top (is_top top)
    where
      by_top : (b : Bool) → Lies (cond b (passes_below x (level top)) all_passes) k ↔ ((b && le_z top (on_pass x k)) ≡ false)
      by_top true =
          Iff.trans (below_lies x (level top) k)
          (rw (level_stays top k, le_test top (on_pass x k)) (Iff.trans (Iff.symm (lt_decides (on_pass x k) top)) (not-true (lt_z (on_pass x k) top))))
      by_top false = (λ _. refl, λ _. omega arith)

  pinned_lies : Lies (passes_pinned top x) k ↔ (is_pinned top (on_pass x k) ≡ true)
  unfolding passes_pinned is_pinned Lies
  pinned_lies = by_top (is_top top)
    where
      by_top : (b : Bool) → Lies (cond b (passes_at_most (level top) x) no_pass) k ↔ ((b && le_z top (on_pass x k)) ≡ true)
      by_top true = Iff.trans (at_most_lies (level top) x k) (rw (level_stays top k, le_test top (on_pass x k)) (not-false (lt_z (on_pass x k) top)))
      by_top false = (λ l. absurd (omega arith), λ e. absurd (false≢true e))

-- ---- the verdict on what holds on no pass outside a stretch

-- It fails on some pass.
on_part : (some : Bool) (F : ℕ → Type 0) (k : ℕ) → ¬ F k → (some ≡ true) ↔ ((k : ℕ) × F k) → PassMeans (cond some Changes AlwaysFalse) F
unfolding PassMeans
on_part true F k fails found = (found.0 refl, (k, fails))
on_part false F k fails found = λ i h. false≢true (found.1 (i, h))

on_means : (all : Verdict) (some : Bool) (p : Stretch) (F : ℕ → Type 0) → ((k : ℕ) → F k → Lies p k) → (p ≡ all_passes → PassMeans all F)
    → (some ≡ true) ↔ ((k : ℕ) × F k) → PassMeans (judge_on all some p) F
unfolding judge_on is_all Lies
on_means all some (From zero) F inside whole found = whole refl
on_means all some (From (suc a)) F inside whole found = rw (eqb-suc-zero a) (on_part some F 0 (λ h. let l = inside 0 h in omega arith) found)
on_means all some (Between a b) F inside whole found = on_part some F b (λ h. let l = (inside b h).1 in omega arith) found

-- Every pass lies in all passes.
lies_all : (p : Stretch) → p ≡ all_passes → (k : ℕ) → Lies p k
unfolding Lies
lies_all p e k = rw e (omega arith)

pinned_means : (top : ℤ) (x : Line) → PassMeans (judge_pinned top x) (λ k. is_pinned top (on_pass x k) ≡ true)
unfolding judge_pinned PassMeans
pinned_means top x =
    on_means AlwaysTrue (has_pass (passes_pinned top x)) (passes_pinned top x) (λ k. is_pinned top (on_pass x k) ≡ true)
    (λ k. (pinned_lies top x k).1)
    (λ e k. (pinned_lies top x k).0 (lies_all (passes_pinned top x) e k))
    (Iff.trans (has_pass_lem (passes_pinned top x)) (λ h. (h.0, (pinned_lies top x h.0).0 h.1), λ h. (h.0, (pinned_lies top x h.0).1 h.1)))

-- A relation holds on some pass of a stretch where the test says so.
some_on_lem : (relation : Relation) (x y : Line) (p : Stretch) → (some_on relation x y p ≡ true) ↔ ((k : ℕ) × (Lies p k × Relates relation (on_pass x k) (on_pass y k)))
unfolding some_on
some_on_lem Below x y p = common_has (passes_below x y) p _ (below_lies x y)
some_on_lem Same x y p = common_has (passes_same x y) p _ (same_lies x y)
some_on_lem (Within n) x y p = some_within_lem n x y p
some_on_lem Pinned x y p = (λ e. absurd (false≢true e), λ h. absurd h.1.1)

module _ (relation : Relation) (s : ℤ) (x : Line) (t : ℤ) (y : Line) where
  -- the relation holds on a pass, and neither line is pinned on it
  abbrev Free : ℕ → Type 0
  Free k = Lies (common (passes_free s x) (passes_free t y)) k × Relates relation (on_pass x k) (on_pass y k)

  free_means : PassMeans (judge_free relation s x t y) Free
  unfolding judge_free Judges
  free_means =
      on_means (judge_lines relation x y) (some_on relation x y (common (passes_free s x) (passes_free t y))) (common (passes_free s x) (passes_free t y)) Free
      (λ k h. h.0)
      (λ e. means_iff _ _ _ (λ k. (λ r. (lies_all _ e k, r), λ h. h.1)) (judges relation x y))
      (some_on_lem relation x y (common (passes_free s x) (passes_free t y)))

  -- what is seen of the two lines
  free_seen : (k : ℕ) → Free k ↔ Compared (Relates relation) (under s (on_pass x k)) (under t (on_pass y k))
  free_seen k =
      Iff.trans (
        λ h. let both = (common_lies (passes_free s x) (passes_free t y) k).0 h.0 in ((free_lies s x k).0 both.0, (free_lies t y k).0 both.1, h.1),
        λ h. ((common_lies (passes_free s x) (passes_free t y) k).1 ((free_lies s x k).1 h.0, (free_lies t y k).1 h.1), h.2),
      )
      (numbers_under (Relates relation) s (on_pass x k) t (on_pass y k))

  free_judged : PassMeans (judge_free relation s x t y) (λ k. Compared (Relates relation) (under s (on_pass x k)) (under t (on_pass y k)))
  free_judged = means_iff _ _ _ free_seen free_means

-- The verdict on two lines, each under its top, is right on every pass.
pub judged_under : (relation : Relation) (s : ℤ) (x : Line) (t : ℤ) (y : Line)
    → PassMeans (judge_under relation s x t y) (λ k. SeenRelates relation (under s (on_pass x k)) (under t (on_pass y k)))
unfolding judge_under
judged_under Below s x t y = free_judged Below s x t y
judged_under Same s x t y = free_judged Same s x t y
judged_under (Within n) s x t y = free_judged (Within n) s x t y
judged_under Pinned s x t y = means_iff _ _ _ (λ k. pinned_under s (on_pass x k)) (pinned_means s x)

-- ---- without tops

-- Where neither line has a top, the verdict is the one on the lines.
pub judged_free : (relation : Relation) (x y : Line) → judge_under relation (pos 0) x (pos 0) y ≡ judge_lines relation x y
unfolding judge_under judge_free judge_pinned judge_on is_all passes_free passes_pinned common has_pass is_top
judged_free Below x y = refl
judged_free Same x y = refl
judged_free (Within n) x y = refl
judged_free Pinned x y = refl

-- ---- as the code finds it

module _ (x : Line) (top : ℕ) where
  pub free_none : top ≡ 0 → From 0 ≡ passes_free (pos top) x
  unfolding passes_free is_top
  free_none e = simp (e)

  pub free_below : (top ≡ 0 → ⊥) → passes_below x (level (pos top)) ≡ passes_free (pos top) x
  unfolding passes_free is_top
  free_below e = simp (ne_eqb top 0 e)

  pub pinned_none : top ≡ 0 → Between 0 0 ≡ passes_pinned (pos top) x
  unfolding passes_pinned is_top
  pinned_none e = simp (e)

  pub pinned_above : (top ≡ 0 → ⊥) → passes_at_most (level (pos top)) x ≡ passes_pinned (pos top) x
  unfolding passes_pinned is_top
  pinned_above e = simp (ne_eqb top 0 e)

pub level_lifted : (top : ℕ) → lifted value_bias bias (top + value_bias) bias ≡ level (pos top)
level_lifted top =
    rw (sub_pos (top + value_bias) value_bias (omega arith), sub_pos bias bias (omega arith)) (ap (λ (n : ℕ). level (pos n)) (omega arith))

module _ (top : ℤ) (x : Line) {p : Stretch} (ep : p ≡ passes_pinned top x) {b : Bool} (eb : b ≡ is_all p) where
  pub pinned_always : b ≡ true → AlwaysTrue ≡ judge_pinned top x
  unfolding judge_pinned judge_on
  pinned_always f = rw (← ep, ← eb, f) refl

  pub pinned_some : b ≡ false → {some : Bool} {r : Verdict} → some ≡ has_pass p → r ≡ cond some Changes AlwaysFalse → r ≡ judge_pinned top x
  unfolding judge_pinned judge_on
  pinned_some f g e = rw (← ep, ← eb, f, ← g) e

module _ (relation : Relation) (s : ℤ) (x : Line) (t : ℤ) (y : Line) {p : Stretch} (ep : p ≡ common (passes_free s x) (passes_free t y))
    {b : Bool} (eb : b ≡ is_all p) {r : Verdict} where
  pub free_always : b ≡ true → r ≡ judge_lines relation x y → r ≡ judge_free relation s x t y
  unfolding judge_free judge_on
  free_always f e = rw (← ep, ← eb, f) e

  pub free_some : b ≡ false → {some : Bool} → some ≡ some_on relation x y p → r ≡ cond some Changes AlwaysFalse → r ≡ judge_free relation s x t y
  unfolding judge_free judge_on
  free_some f g e = rw (← ep, ← eb, f, ← g) e

-- the relations of numbers, by their variants
pub under_numbers : (relation : Relation) (s : ℤ) (x : Line) (t : ℤ) (y : Line) → (relation ≡ Pinned → ⊥)
    → judge_free relation s x t y ≡ judge_under relation s x t y
unfolding judge_under
under_numbers Below s x t y h = refl
under_numbers Same s x t y h = refl
under_numbers (Within n) s x t y h = refl
under_numbers Pinned s x t y h = absurd (h refl)
