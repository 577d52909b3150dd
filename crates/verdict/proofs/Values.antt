-- What the code keeps of terms, lines and comparisons is what the definitions give. Assumes nothing.
use Prim.Native.Nat.{ℕ, suc, ◌+◌, ◌*◌, ◌-◌, max, ◌≤◌, ◌<◌}
use native.Mathlib.Nat.{le-max_left, le-max_right, max-le}
use native.Mathlib.Omega.{arith}
use mathlib.Core.Path.{◌≡◌, refl, sym, ap, ap₂, ◌∙◌, subst}
use mathlib.Core.Bool.{Bool, true, false, cond}
use mathlib.Core.List.{List}
use lib.Dec.{ltb, eqb}
use lib.IntN.{ℤ, pos, sub_ℕ}
use borrow.Author.Tests.{lt-ltb, le-ltb, eqb-true}
use Rattle.cltlb.specs.Run as cltlb
use Rattle.cltlb.specs.Week.{week, minute_of}
use Rattle.cltlb.specs.Truth.{value_at}
use Rattle.cltlb.specs.Fits.{shift_fits, term_fits, atom_fits}
use Rattle.cltlb.specs.declared.Term.{Term}
use Rattle.cltlb.specs.declared.Term.TheVariants.{Constant, Reading}
use Rattle.cltlb.specs.declared.Atom.{Atom}
use Rattle.cltlb.specs.declared.Atom.TheVariants as atom
use Rattle.cltlb.proofs.Fits as fits
use Rattle.fields.specs.inner.Biased.{bias, unbiased}
use Rattle.plan.specs.Layout.{cycle_rows, top_of, drift_of}
use Rattle.plan.specs.inner.Sizes.{all_rows, Fitting}
use Rattle.plan.specs.Run.{reading_on, run_of}
use Rattle.plan.specs.inner.Lifted.{value_bias, lowered, seen_of}
use Rattle.plan.specs.declared.lookup.Seen.{Seen}
use Rattle.plan.specs.declared.lookup.Seen.TheVariants.{Number, Pinned, BeforeRun}
use Rattle.plan.specs.declared.sizes.Sizes.{Sizes}
use Rattle.plan.proofs.Shifts.{shifted}
use Rattle.fields.proofs.Differences.{pos_sub}
use Rattle.verdict.specs.Weeks.{minutes_after}
use Rattle.verdict.specs.Comparisons.{comparison, comparison_of, test_of, tested, judge_lines}
use Rattle.verdict.specs.Tops.{judge_under}
use Rattle.verdict.specs.Lines.{Line}
use Rattle.verdict.specs.Rows.{term_top, judge_from, join, join_first, test_at, judge_cycle, judge_row, verdict_of}
use Rattle.verdict.specs.inner.Landed.{line_on, landed_line, judge_landed, NoTops}
use Rattle.verdict.specs.inner.Reach.{back, reach, TermsFit, FitsSome}
use Rattle.plan.specs.declared.landing.Landing.{Landing}
use Rattle.verdict.specs.inner.Judgement.{Judgement}
use Rattle.verdict.specs.declared.Comparison.{Comparison}
use Rattle.verdict.specs.declared.Relation.{Relation}
use Rattle.verdict.specs.declared.Relation.TheVariants as asked
use Rattle.verdict.specs.declared.Verdict.{Verdict}
use Rattle.verdict.specs.declared.Verdict.TheVariants.{AlwaysTrue, AlwaysFalse}
use Rattle.verdict.proofs.Decisions.{lifted, bias_lt_z, bias_eq_z}
use Rattle.verdict.proofs.UnderTops.{judged_free}
use Rattle.verdict.proofs.Minutes.{after_bias}
use Rattle.verdict.proofs.Relations.{test_numbers, test_one, test_before}
use Rattle.verdict.proofs.Cycles.{reach_le, Inside, cycle_same, inside_4}
use Rattle.verdict.proofs.Verdicts.{judged, atom_terms}

-- ---- terms

module _ (x : Term) (channel : ℕ) (shift : ℤ) (e : x ≡ Reading channel shift) where
  pub reading_fits : (v : ℕ) → term_fits v x ≡ true → (channel < v) × (shift_fits shift ≡ true)
  reading_fits v f = fits.reading_fits v channel shift (ap (term_fits v) (sym e) ∙ f)

  pub reading_reach : back shift ≡ reach x
  unfolding reach
  reading_reach = rw e refl

module _ (plan : List ℕ) (x : Term) (t : ℕ) where
  -- what is seen of a constant and of a reading
  pub sees_constant : (a : ℕ) (z : ℤ) → x ≡ Constant z → lowered a ≡ z → seen_of (Number a) ≡ value_at (run_of plan) x t
  unfolding seen_of value_at
  sees_constant a z e h = rw e (ap cltlb.number h)

  pub sees_reading : (seen : Seen) (channel code : ℕ) (shift : ℤ) → x ≡ Reading channel shift → sub_ℕ code 4 ≡ shift
      → seen_of seen ≡ run_of plan channel (sub_ℕ (t + code) 4) → seen_of seen ≡ value_at (run_of plan) x t
  unfolding value_at
  sees_reading seen channel code shift e g h = rw e (h ∙ ap (run_of plan channel) (sym (shifted t code shift g)))

-- the top of a reading
pub top_reading : (plan : List ℕ) {x : Term} (channel : ℕ) (shift : ℤ) → x ≡ Reading channel shift → {r : ℕ} → pos r ≡ top_of plan channel → pos r ≡ term_top plan x
top_reading plan channel shift e h = rw e h

pub top_constant : (plan : List ℕ) {x : Term} {z : ℤ} → x ≡ Constant z → pos 0 ≡ term_top plan x
top_constant plan e = rw e refl

-- the line of a constant and of a channel
pub line_constant : (plan : List ℕ) (x : Term) (l : Landing) (k a : ℕ) (z : ℤ) → x ≡ Constant z → lowered a ≡ z → lifted value_bias bias a bias ≡ landed_line plan x l k
line_constant plan x l k a z e h = rw e (ap (λ (n : ℤ). record { at = n; step = pos 0 }) h)

pub line_reading : (plan : List ℕ) (x : Term) (l : Landing) (k channel : ℕ) (shift : ℤ) → x ≡ Reading channel shift
    → (line : Line) → line ≡ line_on plan channel l.row (k + l.off - 4) → line ≡ landed_line plan x l k
line_reading plan x l k channel shift e line h = rw e h

pub line_channel : (plan : List ℕ) (channel row pass a d : ℕ) → lowered a ≡ reading_on plan channel row pass → unbiased d ≡ drift_of plan row channel
    → lifted value_bias bias a d ≡ line_on plan channel row pass
line_channel plan channel row pass a d h k = ap₂ (λ (m n : ℤ). record { at = m; step = n }) h k

-- ---- comparisons of two values that are seen

-- two numbers
module _ (m n : ℕ) where
  pub number_below : ltb m n ≡ test_of asked.Below (lowered m) (lowered n)
  number_below = sym (bias_lt_z m n value_bias)

  pub number_same : eqb m n ≡ test_of asked.Same (lowered m) (lowered n)
  number_same = sym (bias_eq_z m n value_bias)

  pub number_within : (r minutes : ℕ) → r ≡ minute_of (sub_ℕ m n) → ltb r minutes ≡ test_of (asked.Within minutes) (lowered m) (lowered n)
  number_within r minutes h = rw (after_bias m n value_bias, ← h) refl

-- by what is seen
module _ (relation : Relation) (a b : Seen) where
  module _ (m : ℕ) (e : a ≡ Number m) where
    pub tested_numbers : (n : ℕ) → b ≡ Number n → {r : Bool} → r ≡ test_of relation (lowered m) (lowered n) → r ≡ tested relation (seen_of a) (seen_of b)
    unfolding seen_of
    tested_numbers n f h = rw (e, f) (h ∙ sym (test_numbers relation (lowered m) (lowered n)))

    pub tested_one : ((n : ℕ) → b ≡ Number n → ⊥) → false ≡ tested relation (seen_of a) (seen_of b)
    unfolding seen_of
    tested_one f = rw e (alone b f)
      where
        alone : (b : Seen) → ((n : ℕ) → b ≡ Number n → ⊥) → false ≡ tested relation (cltlb.number (lowered m)) (seen_of b)
        alone (Number n) f = absurd (f n refl)
        alone Pinned f = sym (test_one relation (lowered m)).0
        alone BeforeRun f = sym (test_one relation (lowered m)).1

  pub tested_pinned : a ≡ Pinned → {r : Bool} → ((y : cltlb.Seen) → r ≡ tested relation cltlb.pinned y) → r ≡ tested relation (seen_of a) (seen_of b)
  unfolding seen_of
  tested_pinned e h = rw e (h (seen_of b))

  pub tested_before : a ≡ BeforeRun → false ≡ tested relation (seen_of a) (seen_of b)
  unfolding seen_of
  tested_before e = rw e (sym (test_before relation (seen_of b)))

pub test_is : (plan : List ℕ) (x : Comparison) (t : ℕ) (a b : Seen) → seen_of a ≡ value_at (run_of plan) x.left t → seen_of b ≡ value_at (run_of plan) x.right t
    → tested x.relation (seen_of a) (seen_of b) ≡ test_at plan x t
unfolding test_at
test_is plan x t a b e f = ap₂ (tested x.relation) e f

-- ---- rows

-- the verdict on two terms that have landed
pub landed_is : (plan : List ℕ) (x : Comparison) (left right : Landing) (k : ℕ) {s t : ℤ} {X Y : Line} {r : Verdict} → r ≡ judge_under x.relation s X t Y
    → s ≡ term_top plan x.left → X ≡ landed_line plan x.left left k → t ≡ term_top plan x.right → Y ≡ landed_line plan x.right right k
    → r ≡ judge_landed plan x left right k
landed_is plan x left right k h s X t Y = rw (← s, ← X, ← t, ← Y) h

-- and where there are no tops, by their lines alone
pub landed_free : (plan : List ℕ) (x : Comparison) (left right : Landing) (k : ℕ) → NoTops plan x → {X Y : Line} {r : Verdict} → r ≡ judge_lines x.relation X Y
    → X ≡ landed_line plan x.left left k → Y ≡ landed_line plan x.right right k → r ≡ judge_landed plan x left right k
landed_free plan x left right k none h X Y =
    rw (none.0, none.1, ← X, ← Y) (h ∙ sym (judged_free x.relation _ _))

-- Two tops whose sum is 0 are none.
pub no_tops : (plan : List ℕ) (x : Comparison) (s t : ℕ) → pos s ≡ term_top plan x.left → pos t ≡ term_top plan x.right → eqb (s + t) 0 ≡ true → NoTops plan x
no_tops plan x s t e f h =
    let sum = eqb-true (s + t) 0 h in
    let left : s ≡ 0 = omega arith in
    let right : t ≡ 0 = omega arith in
    (sym e ∙ ap pos left, sym f ∙ ap pos right)

-- how far back the two terms of a comparison reach at most
pub farther_reach : (x : Comparison) {m p q : ℕ} → m ≡ max p q → p ≡ reach x.left → q ≡ reach x.right → m ≡ max (reach x.left) (reach x.right)
farther_reach x e f g = e ∙ ap₂ max f g

-- both terms of a comparison reach at most m positions back
module _ (z : Sizes) (x : Comparison) (m : ℕ) (e : m ≡ max (reach x.left) (reach x.right)) where
  pub farther_le : TermsFit z x → m ≤ 4
  farther_le f = rw e (max-le (reach_le z.channels x.left f.0) (reach_le z.channels x.right f.1))

  pub farther_in : (t : ℕ) → z.start + m ≤ t → (z.start + reach x.left ≤ t) × (z.start + reach x.right ≤ t)
  farther_in t h = omega (arith, le-max_left (reach x.left) (reach x.right), le-max_right (reach x.left) (reach x.right))

-- the first passes, put in front one by one
module _ (truth : ℕ → Bool) (k : ℕ) (whole verdict : Verdict) (e : whole ≡ join_first truth k verdict) where
  pub pass_joined : 0 < k → {b : Bool} {r : Verdict} → b ≡ truth (k - 1) → r ≡ join b verdict → whole ≡ join_first truth (k - 1) r
  unfolding join_first
  pass_joined h t j =
      let s : k ≡ suc (k - 1) = omega arith in
      e
      ∙ ap (λ (i : ℕ). join_first truth i verdict) s
      ∙ ap (join_first truth (k - 1)) (sym (j ∙ ap (λ (b : Bool). join b verdict) t))

  -- no pass is left
  pub all_joined : k ≤ 0 → verdict ≡ whole
  unfolding join_first
  all_joined h = let s : k ≡ 0 = omega arith in sym (e ∙ ap (λ (i : ℕ). join_first truth i verdict) s)

-- the truth of a comparison on the passes from a position on
abbrev pub pass_test : List ℕ → Comparison → ℕ → ℕ → Bool
pass_test plan x row k = test_at plan x (row + k * cycle_rows plan)

module _ {plan : List ℕ} {z : Sizes} (f : Fitting plan z) (x : Comparison) where
  -- the first passes, by the sizes
  pub passes_joined : (row n : ℕ) (later : Verdict) {r : Verdict} → r ≡ join_first (λ k. test_at plan x (row + k * z.cycle)) n later
      → r ≡ join_first (pass_test plan x row) n later
  passes_joined row n later e = e ∙ ap (λ (c : ℕ). join_first (λ k. test_at plan x (row + k * c)) n later) (sym f.c_is)

  -- the passes from a position of the cycle on: from the n-th on neither term reaches before the cycle
  pub cycle_is : TermsFit z x → (row n : ℕ) → z.start ≤ row
      → (z.start + reach x.left ≤ row + n * z.cycle) × (z.start + reach x.right ≤ row + n * z.cycle)
      → (later : Verdict) → later ≡ judge_from plan x (row + n * z.cycle) → {r : Verdict} → r ≡ join_first (pass_test plan x row) n later → r ≡ judge_cycle plan x 4 row
  unfolding judge_cycle
  cycle_is g row n h k later e j =
      j ∙ from ∙ cycle_same plan x h_c row n 4 inside (inside_4 plan x z.channels row g.0 g.1 h_c (rw f.p_is h))
    where
      h_c : 1 ≤ cycle_rows plan
      h_c = rw f.c_is f.a_cycle

      inside : Inside plan x (row + n * cycle_rows plan)
      inside = rw f.c_is (record { left = rw f.p_is k.0; right = rw f.p_is k.1 })

      from : join_first (pass_test plan x row) n later ≡ judge_cycle plan x n row
      from = ap (join_first (pass_test plan x row) n) (e ∙ ap (λ (i : ℕ). judge_from plan x (row + n * i)) (sym f.c_is))

  module _ (row : ℕ) where
    pub on_cycle_row : z.start ≤ row → judge_cycle plan x 4 row ≡ judge_row plan x row
    unfolding judge_row
    on_cycle_row h = simp (f.p_is, le-ltb row z.start h)

    pub on_start_row : row < z.start → (b c : Bool) → b ≡ test_at plan x row → b ≡ c → cond c AlwaysTrue AlwaysFalse ≡ judge_row plan x row
    unfolding judge_row
    on_start_row h b c e g = simp (f.p_is, lt-ltb row z.start h, ← e, g)

-- ---- atoms

-- a window, which is a comparison with the minute at which it begins
module _ {x : Atom} {c from to : ℕ} {s : ℤ} (e : x ≡ atom.Window c s from to) where
  pub window_begins : FitsSome x → from < week
  window_begins f = (fits.ends_fit from to (fits.window_fits_lem f.0 c s from to (ap (atom_fits f.0) (sym e) ∙ f.1)).1).from_fits

  pub window_comparison : {u z : ℤ} {m : ℕ} → u ≡ s → m ≡ minute_of (sub_ℕ to from) → z ≡ pos from
      → comparison (asked.Within m) (Reading c u) (Constant z) ≡ comparison_of x
  window_comparison g h k = rw (e, g, h, k) (ap (λ (i : ℕ). comparison (asked.Within i) (Reading c s) (Constant (pos from))) (sym ends))
    where
      ends : minutes_after (pos to) (pos from) ≡ minute_of (sub_ℕ to from)
      ends = ap₂ minutes_after (pos_sub to) (pos_sub from) ∙ after_bias to from 0

-- kind 14
pub pinned_comparison : {x : Atom} {c : ℕ} {s : ℤ} → x ≡ atom.Pinned c s → {u : ℤ} → u ≡ s → comparison asked.Pinned (Reading c u) (Constant (pos 0)) ≡ comparison_of x
pinned_comparison e g = rw (e, g) refl

-- the terms of the comparison that an atom is
pub atom_fit : (z : Sizes) (x : Atom) → atom_fits z.channels x ≡ true → {r : Comparison} → r ≡ comparison_of x → TermsFit z r
atom_fit z x h e = subst (TermsFit z) (sym e) (atom_terms z.channels x h)

-- the promise of a verdict
pub judgement : {plan : List ℕ} {z : Sizes} → Fitting plan z → {atom : Atom} → atom_fits z.channels atom ≡ true → (row : ℕ) → row < all_rows z
    → (r : Verdict) → r ≡ verdict_of plan atom row → Judgement plan atom row r
judgement {plan} {z} f {atom} h row l r e = record {
  answer = e;
  meaning = rw e (judged plan (rw f.c_is f.a_cycle) row (rw (f.p_is, f.c_is) l) z.channels atom h);
}
