-- Marks held against two lines: what the sweeps test is whether the verdict on the lines says on every pass what the mark says.
-- Assumes nothing.
use Prim.Native.Nat.{ℕ, ◌+◌, ◌-◌, ◌%◌, ◌≤◌, ◌<◌}
use native.Mathlib.Decide.{dec_lt, ℕ_discrete}
use native.Mathlib.Omega.{arith}
use mathlib.Core.Path.{◌≡◌, refl, sym, ap, ap₂, ◌∙◌}
use mathlib.Core.Bool.{Bool, true, false, cond, not, ◌&&◌, ◌||◌, beq, false≢true}
use mathlib.Core.Logic.{◌↔◌, by_cases}
use lib.Dec.{ltb, eqb}
use lib.IntN.{ℤ, pos, sub_ℕ}
use lib.Signed.{lt_z}
use borrow.Author.Tests.{lt-ltb, le-ltb, eq-eqb, ne_eqb}
use Rattle.fields.specs.inner.Biased.{bias, unbiased}
use Rattle.cltlb.specs.Run.{is_top, is_pinned, under}
use Rattle.verdict.specs.Lines.{Line, on_pass, level, eq_z, judge_less, meets, judge_equal}
use Rattle.cltlb.specs.Week.{week, minute_of}
use Rattle.verdict.specs.Weeks.{minutes_after, judge_spaced}
use Rattle.verdict.specs.Comparisons.{test_of, of_number, seen_pinned, of_numbers, tested, judge_lines}
use Rattle.verdict.specs.Tops.{judge_under}
use Rattle.verdict.specs.declared.Relation.{Relation}
use Rattle.verdict.specs.declared.Relation.TheVariants.{Below, Same, Within, Pinned}
use Rattle.verdict.specs.declared.Verdict.TheVariants.{AlwaysTrue, AlwaysFalse, Changes}
use Rattle.verdict.proofs.Decisions.{lifted, by_lifted, bias_lt_z, bias_eq_z, less_until, less_always, less_later, less_never, meets_once, meets_over, meets_apart, equal_below, equal_above, equal_always, equal_once}
use Rattle.verdict.proofs.Minutes.{after_bias, spaced_none, spaced_all, spaced_some}
use Rattle.verdict.proofs.Passes.{PassMeans, means_one}
use Rattle.verdict.proofs.Relations.{SeenRelates, tested_decides}
use Rattle.verdict.proofs.UnderTops.{level_stays, judged_under, judged_free}
use Rattle.lanes.specs.inner.Agreement.{line_from, verdict_agrees, stays}

-- ---- two numbers kept without a sign

pub numbers_below : (a b : ℕ) {x y : ℤ} → unbiased a ≡ x → unbiased b ≡ y → ltb a b ≡ test_of Below x y
numbers_below a b e f = sym (bias_lt_z a b bias) ∙ ap₂ lt_z e f

pub numbers_same : (a b : ℕ) {x y : ℤ} → unbiased a ≡ x → unbiased b ≡ y → eqb a b ≡ test_of Same x y
numbers_same a b e f = sym (bias_eq_z a b bias) ∙ ap₂ eq_z e f

pub compare_below : (a b : ℕ) {relation : Relation} → relation ≡ Below → ltb a b ≡ test_of relation (unbiased a) (unbiased b)
compare_below a b e = rw e (numbers_below a b refl refl)

pub compare_same : (a b : ℕ) {relation : Relation} → relation ≡ Same → eqb a b ≡ test_of relation (unbiased a) (unbiased b)
compare_same a b e = rw e (numbers_same a b refl refl)

pub numbers_within : (n a b : ℕ) {x y : ℤ} {r : ℕ} → unbiased a ≡ x → unbiased b ≡ y → r ≡ minute_of (sub_ℕ a b) → ltb r n ≡ test_of (Within n) x y
numbers_within n a b e f h = ap (λ (m : ℕ). ltb m n) (h ∙ sym (after_bias a b bias) ∙ ap₂ minutes_after e f)

pub compare_pinned : (a b : ℕ) {relation : Relation} → relation ≡ Pinned → false ≡ test_of relation (unbiased a) (unbiased b)
compare_pinned a b e = rw e refl

pub compare_within : (a b : ℕ) {relation : Relation} {n r : ℕ} → relation ≡ Within n → r ≡ minute_of (sub_ℕ a b) → ltb r n ≡ test_of relation (unbiased a) (unbiased b)
compare_within a b e h = rw e (numbers_within _ a b refl refl h)

-- ---- two lines

pub line_is : (a d : ℕ) {x y : ℤ} → unbiased a ≡ x → unbiased d ≡ y → line_from a d ≡ record { at = x; step = y }
line_is a d e f = ap₂ (λ (m n : ℤ). record { at = m; step = n }) e f

module _ (a d b e : ℕ) where
  pub less_agrees : (mark : Bool) → (beq mark (ltb a b) && (not (ltb a b && ltb e d) && not (not (ltb a b) && ltb d e))) ≡ verdict_agrees (judge_less (line_from a d) (line_from b e)) mark
  less_agrees mark =
      by_cases (dec_lt a b)
      (λ h. by_cases (dec_lt e d)
      (λ g. rw (lt-ltb a b h, lt-ltb e d g, less_until bias bias a d b e h g) (until mark))
      (λ g. rw (lt-ltb a b h, le-ltb e d (omega arith), less_always bias bias a d b e h (omega arith)) (always mark)))
      (λ h. by_cases (dec_lt d e)
      (λ g. rw (le-ltb a b (omega arith), lt-ltb d e g, less_later bias bias a d b e (omega arith) g) (later mark))
      (λ g. rw (le-ltb a b (omega arith), le-ltb d e (omega arith), less_never bias bias a d b e (omega arith) (omega arith)) (never mark)))
    where
      until : (m : Bool) → (beq m true && (false && true)) ≡ false
      until true = refl
      until false = refl

      always : (m : Bool) → (beq m true && (true && true)) ≡ m
      always true = refl
      always false = refl

      later : (m : Bool) → (beq m false && (true && false)) ≡ false
      later true = refl
      later false = refl

      never : (m : Bool) → (beq m false && (true && true)) ≡ not m
      never true = refl
      never false = refl

  -- equal: whether the verdict is no change, case by case
  pub stays_steady : d ≡ e → true ≡ stays (judge_equal (line_from a d) (line_from b e))
  stays_steady g =
      by_cases (dec_lt a b)
      (λ h. rw (equal_below bias bias a d b e h, meets_apart bias bias a d b e (omega arith)) refl)
      (λ h. by_cases (dec_lt b a)
      (λ l. rw (equal_above bias bias a d b e l, meets_apart bias bias b e a d (omega arith)) refl)
      (λ l. rw (equal_always bias bias a d b e (omega arith) g) refl))

  pub stays_never_met : a < b → d ≤ e → true ≡ stays (judge_equal (line_from a d) (line_from b e))
  stays_never_met h g = rw (equal_below bias bias a d b e h, meets_apart bias bias a d b e g) refl

  pub stays_stepped_over : a < b → e < d → not (eqb ((b - a) % (d - e)) 0) ≡ stays (judge_equal (line_from a d) (line_from b e))
  stays_stepped_over h g =
      by_cases (ℕ_discrete ((b - a) % (d - e)) 0)
      (λ z. rw (eq-eqb ((b - a) % (d - e)) 0 z, equal_below bias bias a d b e h, meets_once bias bias a d b e h g z) refl)
      (λ z. rw (ne_eqb ((b - a) % (d - e)) 0 z, equal_below bias bias a d b e h, meets_over bias bias a d b e h g z) refl)

  pub stays_once : a ≡ b → (d ≡ e → ⊥) → false ≡ stays (judge_equal (line_from a d) (line_from b e))
  stays_once h g = rw (equal_once bias bias a d b e h g) refl

module _ (a d b e : ℕ) (h : b < a) where
  -- the same from the other side
  turned : stays (judge_equal (line_from b e) (line_from a d)) ≡ stays (judge_equal (line_from a d) (line_from b e))
  turned = rw (equal_below bias bias b e a d h, equal_above bias bias a d b e h) refl

  pub stays_never_met_above : e ≤ d → true ≡ stays (judge_equal (line_from a d) (line_from b e))
  stays_never_met_above g = stays_never_met b e a d h g ∙ turned

  pub stays_stepped_over_above : d < e → not (eqb ((a - b) % (e - d)) 0) ≡ stays (judge_equal (line_from a d) (line_from b e))
  stays_stepped_over_above g = stays_stepped_over b e a d h g ∙ turned

-- The mark says whether the lines are the same at first, and that is no change.
pub equal_agrees : (x y : Line) (mark : Bool) → (beq mark (eq_z x.at y.at) && stays (judge_equal x y)) ≡ verdict_agrees (judge_equal x y) mark
equal_agrees = by_lifted (λ x y. (mark : Bool) → (beq mark (eq_z x.at y.at) && stays (judge_equal x y)) ≡ verdict_agrees (judge_equal x y) mark) go
  where
    other : (m t : Bool) → (beq m false && stays (cond t Changes AlwaysFalse)) ≡ verdict_agrees (cond t Changes AlwaysFalse) m
    other true true = refl
    other true false = refl
    other false true = refl
    other false false = refl

    always : (m : Bool) → (beq m true && true) ≡ m
    always true = refl
    always false = refl

    once : (m : Bool) → (beq m true && false) ≡ false
    once true = refl
    once false = refl

    go : (B D a d b e : ℕ) (mark : Bool)
        → (beq mark (eq_z (sub_ℕ a B) (sub_ℕ b B)) && stays (judge_equal (lifted B D a d) (lifted B D b e))) ≡ verdict_agrees (judge_equal (lifted B D a d) (lifted B D b e)) mark
    go B D a d b e mark =
        by_cases (dec_lt a b)
        (λ h. rw (bias_eq_z a b B, ne_eqb a b (λ s. omega arith), equal_below B D a d b e h) (other mark (meets (lifted B D a d) (lifted B D b e))))
        (λ h. by_cases (dec_lt b a)
        (λ l. rw (bias_eq_z a b B, ne_eqb a b (λ s. omega arith), equal_above B D a d b e l) (other mark (meets (lifted B D b e) (lifted B D a d))))
        (λ l. by_cases (ℕ_discrete d e)
        (λ g. rw (bias_eq_z a b B, eq-eqb a b (omega arith), equal_always B D a d b e (omega arith) g) (always mark))
        (λ g. rw (bias_eq_z a b B, eq-eqb a b (omega arith), equal_once B D a d b e (omega arith) g) (once mark))))

-- ---- minutes that are so far apart

pub spaced_agrees : (n g least : ℕ) (mark : Bool)
    → ((mark && ltb (least + (week - g)) n) || not (mark || ltb least n)) ≡ verdict_agrees (judge_spaced n g least) mark
spaced_agrees n g least mark =
    by_cases (dec_lt least n)
    (λ h. by_cases (dec_lt (least + (week - g)) n)
    (λ l. rw (lt-ltb least n h, lt-ltb (least + (week - g)) n l, ← spaced_all n g least h l) (always mark))
    (λ l. rw (lt-ltb least n h, le-ltb (least + (week - g)) n (omega arith), ← spaced_some n g least h (omega arith)) (some mark)))
    (λ h. rw (le-ltb least n (omega arith), le-ltb (least + (week - g)) n (omega arith), ← spaced_none n g least (omega arith)) (never mark))
  where
    always : (m : Bool) → ((m && true) || not (m || true)) ≡ m
    always true = refl
    always false = refl

    some : (m : Bool) → ((m && false) || not (m || true)) ≡ false
    some true = refl
    some false = refl

    never : (m : Bool) → ((m && false) || not (m || false)) ≡ not m
    never true = refl
    never false = refl

-- ---- lines that do not drift, and rows that are not repeated

pub truth_agrees : (b mark : Bool) → beq mark b ≡ verdict_agrees (cond b AlwaysTrue AlwaysFalse) mark
truth_agrees true true = refl
truth_agrees true false = refl
truth_agrees false true = refl
truth_agrees false false = refl

-- What is seen of numbers that stay is on every pass what it is at first.
level_verdict : (relation : Relation) (s a t b : ℤ) → judge_under relation s (level a) t (level b) ≡ cond (tested relation (under s a) (under t b)) AlwaysTrue AlwaysFalse
unfolding PassMeans
level_verdict relation s a t b =
    means_one _ _ _ (judged_under relation s (level a) t (level b)) (on_level (tested relation (under s a) (under t b)) (tested_decides relation (under s a) (under t b)))
  where
    on_level : (r : Bool) → (r ≡ true) ↔ SeenRelates relation (under s a) (under t b)
        → PassMeans (cond r AlwaysTrue AlwaysFalse) (λ k. SeenRelates relation (under s (on_pass (level a) k)) (under t (on_pass (level b) k)))
    on_level true e = λ k. rw (level_stays a k, level_stays b k) (e.0 refl)
    on_level false e = λ k h. false≢true (e.1 (rw (level_stays a k, level_stays b k) at h))

-- Of two numbers without tops the test is the one of the numbers.
pub free_test : (relation : Relation) (a b : ℤ) → test_of relation a b ≡ tested relation (under (pos 0) a) (under (pos 0) b)
unfolding under is_pinned is_top tested of_numbers of_number seen_pinned
free_test Below a b = refl
free_test Same a b = refl
free_test (Within n) a b = refl
free_test Pinned a b = refl

-- So the mark has to say how they compare at first.
pub level_agrees : (relation : Relation) (s a t b : ℤ) (mark : Bool)
    → beq mark (tested relation (under s a) (under t b)) ≡ verdict_agrees (judge_under relation s (level a) t (level b)) mark
level_agrees relation s a t b mark =
    truth_agrees (tested relation (under s a) (under t b)) mark ∙ ap (λ v. verdict_agrees v mark) (sym (level_verdict relation s a t b))

pub level_numbers : (relation : Relation) (a b : ℤ) (mark : Bool) → beq mark (test_of relation a b) ≡ verdict_agrees (judge_lines relation (level a) (level b)) mark
level_numbers relation a b mark =
    ap (beq mark) (free_test relation a b)
    ∙ level_agrees relation (pos 0) a (pos 0) b mark
    ∙ ap (λ v. verdict_agrees v mark) (judged_free relation (level a) (level b))
