-- Columns with tops: what the sweeps over them test is how what is seen in them compares, and which lines do not come to a top. Assumes
-- nothing.
use Prim.Native.Nat.{ℕ, ◌+◌, ◌*◌, ◌≤◌, ◌<◌}
use native.Mathlib.Omega.{arith}
use mathlib.Core.Path.{◌≡◌, refl, sym, ap, ap₂, ◌∙◌}
use mathlib.Core.Bool.{Bool, true, false, cond, not, ◌&&◌, ◌||◌, beq, and-eq-true_iff}
use mathlib.Core.List.{List}
use lib.Dec.{ltb, leb, eqb}
use lib.IntN.{ℤ, pos, sub_ℕ}
use lib.Signed.{lt_z, le_z}
use borrow.Author.Tests.{ltb-true, leb-true}
use Rattle.cltlb.specs.Run.{Seen, number, pinned, is_top, is_pinned, under}
use Rattle.fields.specs.inner.Biased.{bias, unbiased}
use Rattle.fields.proofs.Differences.{pos_sub, sub_same}
use Rattle.plan.specs.inner.Lifted.{value_bias}
use Rattle.table.specs.inner.Tables.{all_below}
use Rattle.table.proofs.AllBelow.{all_ext, all_each}
use Rattle.verdict.specs.Comparisons.{test_of, of_number, seen_pinned, of_numbers, tested, judge_lines}
use Rattle.verdict.specs.Lines.{Line, level}
use Rattle.verdict.specs.Stretches.{is_all, has_pass, common, passes_below, passes_at_most}
use Rattle.verdict.specs.Tops.{passes_pinned, judge_on, judge_pinned, judge_free, judge_under}
use Rattle.verdict.specs.declared.Relation.{Relation}
use Rattle.verdict.specs.declared.Relation.TheVariants.{Below, Same, Within, Pinned}
use Rattle.verdict.proofs.Decisions.{lifted, by_lifted, bias_lt_z, bias_le_z}
use Rattle.verdict.proofs.PassesBelow.{below_always, below_never, raised_lifted}
use Rattle.verdict.proofs.UnderTops.{free_none, free_below, pinned_none, pinned_above}
use Rattle.lanes.proofs.Comparing.{free_test}
use Rattle.lanes.specs.declared.columns.Column.{Column}
use Rattle.lanes.specs.inner.Agreement.{line_from, verdict_agrees, values_agree, lines_agree, seen_agree, under_agree, lies_below, Free, StayFree}
use Rattle.lanes.specs.inner.Columns.{number_in, line_in, top_in}

-- ---- a number under a top

le_lifted : (top a : ℕ) → leb (top + bias) a ≡ le_z (pos top) (unbiased a)
le_lifted top a = sym (bias_le_z (top + bias) a bias) ∙ ap (λ (z : ℤ). le_z z (unbiased a)) (sub_same (top + bias) bias top 0 (omega arith) ∙ sym (pos_sub top))

pub is_pinned_lem : (top a : ℕ) → (not (eqb top 0) && leb (top + bias) a) ≡ is_pinned (pos top) (unbiased a)
unfolding is_pinned is_top
is_pinned_lem top a = ap (λ (b : Bool). not (eqb top 0) && b) (le_lifted top a)

-- How two values compare, by whether they are pinned.
pub seen_compared : (relation : Relation) (s a t b : ℤ) {l r p c : Bool} → l ≡ is_pinned s a → r ≡ is_pinned t b → ((y : Seen) → p ≡ tested relation pinned y) → c ≡ test_of relation a b
    → ((l && p) || (not (l || r) && c)) ≡ tested relation (under s a) (under t b)
unfolding under tested of_numbers of_number seen_pinned
seen_compared relation s a t b e f g h = rw (e, f, g (number b), h) (by_tests (is_pinned s a) (is_pinned t b) relation)
  where
    by_tests : (l r : Bool) (q : Relation) → ((l && tested q pinned (number b)) || (not (l || r) && test_of q a b)) ≡ tested q (cond l pinned (number a)) (cond r pinned (number b))
    by_tests true r Below = refl
    by_tests true r Same = refl
    by_tests true r (Within n) = refl
    by_tests true r Pinned = refl
    by_tests false true Below = refl
    by_tests false true Same = refl
    by_tests false true (Within n) = refl
    by_tests false true Pinned = refl
    by_tests false false Below = refl
    by_tests false false Same = refl
    by_tests false false (Within n) = refl
    by_tests false false Pinned = refl

-- ---- lines as verdicts take them

pub line_lifted : (a d : ℕ) → lifted value_bias bias (a + 1023 * bias) d ≡ line_from a d
line_lifted a d = ap (λ (z : ℤ). record { at = z; step = unbiased d }) (sub_same (a + 1023 * bias) value_bias a bias (omega arith))

-- ---- two columns without tops

module _ (relation : Relation) (values : List ℕ) (x y : Column) (mark : ℕ → Bool) (n : ℕ) (e : x.top ≡ 0) (f : y.top ≡ 0) where
  pub as_numbers : {b : Bool} → b ≡ all_below (λ k. values_agree relation values x y (mark k) k) n → b ≡ all_below (λ k. seen_agree relation values x y (mark k) k) n
  as_numbers h =
      h ∙ all_ext _ _ n (λ k _. ap (beq (mark k))
      (rw (e, f) (free_test relation (number_in values x k) (number_in values y k))))

-- ---- lines that do not come to their tops

-- a line of a column without a top, and one that lies below its top and does not rise
free_without : (top : ℕ) (x : Line) → top ≡ 0 → Free (pos top) x
free_without top x e = record { free = free_none x top e; pinned = pinned_none x top e }

module _ (B D : ℕ) where
  at_top : (top : ℕ) → pos top ≡ sub_ℕ (top + B) B
  at_top top = pos_sub top ∙ sub_same top 0 (top + B) B (omega arith)

  at_rest : pos 0 ≡ sub_ℕ D D
  at_rest = pos_sub 0 ∙ sub_same 0 0 D D (omega arith)

  -- lies below it and does not rise, by the numbers that are kept
  pub below_lifted : (top a d : ℕ) → (ltb a (top + B) && leb d D) ≡ lies_below (pos top) (lifted B D a d)
  below_lifted top a d =
      ap₂ ◌&&◌ (sym (ap (lt_z (sub_ℕ a B)) (at_top top) ∙ bias_lt_z a (top + B) B))
      (sym (ap (le_z (sub_ℕ d D)) at_rest ∙ bias_le_z d D D))

  free_below_top : (top a d : ℕ) → (top ≡ 0 → ⊥) → a < top + B → d ≤ D → Free (pos top) (lifted B D a d)
  unfolding passes_below passes_at_most passes_pinned
  free_below_top top a d e h g = record {
    free = sym (below_always B D a d (top + B) D h g) ∙ ap (passes_below (lifted B D a d)) top_line ∙ free_below (lifted B D a d) top e;
    pinned = sym (below_never B D (top + B) D (a + 1) d (omega arith) g)
        ∙ ap₂ passes_below top_line (sym (raised_lifted B D a d)) ∙ pinned_above (lifted B D a d) top e;
  }
    where
      top_line : lifted B D (top + B) D ≡ level (pos top)
      top_line = ap₂ (λ (m n : ℤ). record { at = m; step = n }) (sym (at_top top)) (sym at_rest)

lies_free : (top : ℕ) (x : Line) → (top ≡ 0 → ⊥) → lies_below (pos top) x ≡ true → Free (pos top) x
lies_free top x e =
    by_lifted (λ x _. lies_below (pos top) x ≡ true → Free (pos top) x)
    (λ B D a d _ _ s.
    let v = (and-eq-true_iff (ltb a (top + B)) (leb d D)).0 (below_lifted B D top a d ∙ s) in
    free_below_top B D top a d e (ltb-true a (top + B) v.0) (leb-true d D v.1)) x x

module _ (values drifts : List ℕ) (x : Column) where
  pub stay_without : (count : ℕ) → x.top ≡ 0 → StayFree values drifts x count
  unfolding StayFree
  stay_without count e k l = free_without x.top (line_in values drifts x k) e

  -- and where a sweep says of all its rows that they lie below it and do not rise
  pub stay_swept : (count : ℕ) → (x.top ≡ 0 → ⊥) → all_below (λ k. lies_below (top_in x) (line_in values drifts x k)) count ≡ true → StayFree values drifts x count
  unfolding StayFree
  stay_swept count e s k l = lies_free x.top (line_in values drifts x k) e (all_each _ count s k l)

-- Where neither line comes to its top, the verdict is the one on the lines,
judged_below_tops : (relation : Relation) (s : ℤ) (x : Line) (t : ℤ) (y : Line) → Free s x → Free t y → judge_under relation s x t y ≡ judge_lines relation x y
unfolding judge_under judge_free judge_pinned judge_on is_all common has_pass
judged_below_tops Below s x t y f g = rw (← f.free, ← g.free) refl
judged_below_tops Same s x t y f g = rw (← f.free, ← g.free) refl
judged_below_tops (Within n) s x t y f g = rw (← f.free, ← g.free) refl
judged_below_tops Pinned s x t y f g = rw (← f.pinned) refl

-- and the sweep that over the lines.
pub as_lines : (relation : Relation) (values drifts : List ℕ) (x y : Column) (mark : ℕ → Bool) (n : ℕ) → StayFree values drifts x n → StayFree values drifts y n
    → {b : Bool} → b ≡ all_below (λ k. lines_agree relation values drifts x y (mark k) k) n → b ≡ all_below (λ k. under_agree relation values drifts x y (mark k) k) n
unfolding StayFree
as_lines relation values drifts x y mark n f g h =
    h ∙ all_ext _ _ n (λ k l. ap (λ v. verdict_agrees v (mark k)) (sym (judged_below_tops relation (pos x.top) (line_in values drifts x k) (pos y.top) (line_in values drifts y k) (f k l) (g k l))))
