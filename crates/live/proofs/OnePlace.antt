-- What a place of the state keeps of the rule and the rows that it stands for, over one row, and in its answer. Assumes nothing.
use Rattle.std.specs.Prelude.{Ok}
use Rattle.refusal.specs.Outcome.{unrefused}
use Prim.Native.Nat.{ℕ, zero, suc, ◌+◌, ◌*◌, ◌-◌, ◌≤◌, ◌<◌, min}
use native.Mathlib.Omega.{arith}
use mathlib.Core.Path.{◌≡◌, refl, ap, ◌∙◌, subst, subst⁻¹}
use mathlib.Core.Bool.{Bool, true, false, not, and-eq-true_iff}
use mathlib.Core.Logic.Iff
use mathlib.Core.Logic.{◌↔◌}
use mathlib.Core.List.{List, [], ◌∷◌}
use lib.Dec.{T, eqb}
use lib.ListN.{length, get_or, replicate}
use borrow.Author.Tests.{le-leb, ne_eqb, eqb-true, not-true}
use Rattle.fields.specs.inner.Ranges.{Bytes}
use Rattle.cltlb.specs.Fits.{view_fits}
use Rattle.cltlb.specs.Parts.{formula_of}
use Rattle.rule.specs.Layout.{part_count, channel_count}
use Rattle.rule.specs.Take.{views_of}
use Rattle.rule.specs.Sheet.{sheet_outcome}
use Rattle.rule.proofs.SizesKnown.{sizes_known}
use Rattle.rule.proofs.Cleared.{cleared_sizes, cleared_fits}
use Rattle.plan.specs.Layout.{any_below}
use Rattle.plan.proofs.Searches.{none_each}
use Rattle.table.specs.Bytes.{byte_of}
use Rattle.past.specs.Ahead.{view_ahead}
use Rattle.past.specs.Rows.{Row}
use Rattle.past.proofs.Step.{truth_from, HoldsNow}
use Rattle.past.proofs.NewestRow.{step_right, any_run}
use Rattle.live.specs.declared.Watch.{Watch}
use Rattle.live.specs.declared.Answer.TheVariants as answer
use Rattle.live.specs.Truths.{truths_to}
use Rattle.live.specs.State.{new_watch, is_held, older, watch_after, watchable, watch_answer}
use Rattle.live.specs.Calls.{Place, vacant, watched, is_vacant, extended, whole_rule, Tells}
use Rattle.live.proofs.SheetTruths.{seen_kept, byte_back, truth_byte, truth_made}
use Rattle.live.proofs.KeptRows.{Keeps, none_kept, age_on, age_first, kept_sees}

-- ---- a rule that can be watched

module _ (v : ℕ) (sheet : List ℕ) (clear : sheet_outcome sheet ≡ unrefused) (can : watchable v sheet ≡ true) where
  watch_tests : (eqb (channel_count sheet) v ≡ true) × (not (any_below (λ i. view_ahead (views_of sheet i)) (part_count sheet)) ≡ true)
  unfolding watchable
  watch_tests = (and-eq-true_iff (eqb (channel_count sheet) v) (not (any_below (λ i. view_ahead (views_of sheet i)) (part_count sheet)))).0 can

  watch_past : (i : ℕ) → i < part_count sheet → view_ahead (views_of sheet i) ≡ false
  watch_past i h =
      none_each (λ i. view_ahead (views_of sheet i)) (part_count sheet)
      (not-true (any_below (λ i. view_ahead (views_of sheet i)) (part_count sheet)) watch_tests.1) i h

  watch_fits : (i : ℕ) → i < part_count sheet → view_fits v i (views_of sheet i) ≡ true
  watch_fits i h =
      subst (λ (u : ℕ). view_fits u i (views_of sheet i) ≡ true) (eqb-true (channel_count sheet) v watch_tests.0) (cleared_fits sheet clear i h)

-- ---- one place

-- What place p of the state keeps of a rule and the rows since it was added.
pub record Watching (v : ℕ) (readings rules : List ℕ) (p : ℕ) (sheet : List ℕ) (rows : List Row) (w : Watch) : Type 0 where
  pub clear : sheet_outcome sheet ≡ unrefused
  pub can : watchable v sheet ≡ true
  pub bytes : Bytes sheet
  pub parts_are : w.parts ≡ part_count sheet
  pub age_is : w.age ≡ min 5 (length rows)
  pub copied : (j : ℕ) → j < length sheet → get_or rules (836 * p + j) 0 ≡ get_or sheet j 0
  pub keeps : Keeps v rows readings
  pub marks : ℕ → Bool
  pub stored : (i : ℕ) → i < part_count sheet → get_or w.truths i 0 ≡ byte_of (marks i)
  pub right : (i : ℕ) → i < part_count sheet → 0 < length rows → T (marks i) ↔ HoldsNow (formula_of (views_of sheet) i) rows

abbrev pub Stands : ℕ → List ℕ → List ℕ → ℕ → Place → Watch → Type 0
Stands v readings rules p vacant w = is_held w ≡ false
Stands v readings rules p (watched sheet rows) w = Watching v readings rules p sheet rows w

held_parts : (w : Watch) → 1 ≤ w.parts → w.parts ≤ 64 → is_held w ≡ true
unfolding is_held
held_parts w h l = simp (le-leb 1 w.parts h, le-leb w.parts 64 l)

module _ {v : ℕ} {readings rules : List ℕ} {p : ℕ} {sheet : List ℕ} {rows : List Row} {w : Watch} (h : Watching v readings rules p sheet rows w) where
  pub watching_held : is_held w ≡ true
  watching_held =
      let k = sizes_known sheet (cleared_sizes sheet h.clear) in
      let e = h.parts_are in
      held_parts w (omega (arith, k.0)) (omega (arith, k.1))

pub free_same : (v : ℕ) (readings rules : List ℕ) (p : ℕ) (place : Place) (w : Watch) → Stands v readings rules p place w → not (is_held w) ≡ is_vacant place
unfolding is_vacant
free_same v readings rules p vacant w h = ap not h
free_same v readings rules p (watched sheet rows) w h = ap not (watching_held h)

-- ---- a rule just added

zeros : (n i : ℕ) → ◌≡◌ {A = ℕ} (get_or {A = ℕ} (replicate {A = ℕ} n 0) i 0) 0
zeros zero i = refl
zeros (suc n) zero = refl
zeros (suc n) (suc i) = zeros n i

pub begun : (v : ℕ) (readings rules : List ℕ) (p : ℕ) (sheet : List ℕ) → sheet_outcome sheet ≡ unrefused → watchable v sheet ≡ true → Bytes sheet
    → ((j : ℕ) → j < length sheet → get_or rules (836 * p + j) 0 ≡ get_or sheet j 0) → Watching v readings rules p sheet [] (new_watch sheet)
begun v readings rules p sheet clear can bytes copied = record {
  clear = clear;
  can = can;
  bytes = bytes;
  parts_are = refl;
  age_is = refl;
  copied = copied;
  keeps = none_kept v readings;
  marks = λ i. false;
  stored = λ i h. zeros 64 i;
  right = λ i h l. absurd (omega arith);
}

-- ---- one row more

module _ (v : ℕ) (few : v ≤ 8) (row : Row) (then rules : List ℕ) (p : ℕ) (rule : List ℕ)
    (own : (j : ℕ) → j < 836 → get_or rule j 0 ≡ get_or rules (836 * p + j) 0) where
  module _ (sheet : List ℕ) (rows : List Row) (readings : List ℕ) (w : Watch) (h : Watching v readings rules p sheet rows w)
      (Keeps-then : Keeps v (row ∷ rows) then) where
    abbrev age : ℕ
    age = older w.age

    abbrev n : ℕ
    n = part_count sheet

    abbrev now_marks : ℕ → Bool
    now_marks i = eqb (get_or (truths_to then age rule w.truths n n) i 0) 1

    age_now : age ≡ min 5 (suc (length rows))
    age_now = ap older h.age_is ∙ age_on (length rows)

    sheet_copied : (j : ℕ) → j < length sheet → get_or rule j 0 ≡ get_or sheet j 0
    sheet_copied j l = own j (omega (arith, sizes_known sheet (cleared_sizes sheet h.clear))) ∙ h.copied j l

    marks_made : (i : ℕ) → i < n
        → now_marks i ≡ truth_from (seen_kept then age) (eqb (length rows) 0) h.marks i (views_of sheet i) now_marks
    marks_made i l =
        truth_made sheet h.clear h.bytes then age rule w.truths sheet_copied h.marks h.stored i l
        ∙ ap (λ (b : Bool). truth_from (seen_kept then age) b h.marks i (views_of sheet i) now_marks)
        (ap (λ (a : ℕ). eqb a 1) age_now ∙ age_first (length rows))

    watching_on : Watching v then rules p sheet (row ∷ rows)
        (record { parts = w.parts; age = older w.age; truths = truths_to then (older w.age) rule w.truths w.parts w.parts })
    watching_on = record {
      clear = h.clear;
      can = h.can;
      bytes = h.bytes;
      parts_are = h.parts_are;
      age_is = age_now;
      copied = h.copied;
      keeps = Keeps-then;
      marks = now_marks;
      stored = λ i l. ap (λ (k : ℕ). get_or (truths_to then age rule w.truths k k) i 0) h.parts_are
          ∙ truth_byte sheet h.clear h.bytes then age rule w.truths sheet_copied h.marks h.stored i l;
      right = λ i l _. step_right v n (views_of sheet) (watch_fits v sheet h.clear h.can) (watch_past v sheet h.clear h.can) row rows
          (seen_kept then age) (kept_sees v few row rows then Keeps-then age age_now) h.marks now_marks h.right marks_made i l;
    }

  after_held : (w : Watch) → is_held w ≡ true
      → watch_after then rule w ≡ record { parts = w.parts; age = older w.age; truths = truths_to then (older w.age) rule w.truths w.parts w.parts }
  unfolding watch_after
  after_held w e = simp e

  after_free : (w : Watch) → is_held w ≡ false → watch_after then rule w ≡ w
  unfolding watch_after
  after_free w e = simp e

  pub stands_on : (readings : List ℕ) (place : Place) (w : Watch)
      → ((rows : List Row) → Keeps v rows readings → Keeps v (row ∷ rows) then)
      → Stands v readings rules p place w → Stands v then rules p (extended row place) (watch_after then rule w)
  unfolding extended
  stands_on readings vacant w more h = ap is_held (after_free w h) ∙ h
  stands_on readings (watched sheet rows) w more h =
      subst⁻¹ (Watching v then rules p sheet (row ∷ rows)) (after_held w (watching_held h)) (watching_on sheet rows readings w h (more rows h.keeps))

-- ---- the answer

answer_free : (w : Watch) → is_held w ≡ false → watch_answer w ≡ answer.Empty
unfolding watch_answer
answer_free w e = simp e

answer_yet : (w : Watch) → is_held w ≡ true → w.age ≡ 0 → watch_answer w ≡ answer.NotYet
unfolding watch_answer
answer_yet w e f = simp (e, f)

answer_truth : (w : Watch) (b : Bool) → is_held w ≡ true → (w.age ≡ 0 → ⊥) → get_or w.truths (w.parts - 1) 0 ≡ byte_of b → watch_answer w ≡ answer.Truth b
unfolding watch_answer
answer_truth w b e f g = simp (e, ne_eqb w.age 0 f, g) (ap answer.Truth (byte_back b))

pub place_tells : (v : ℕ) (readings rules : List ℕ) (p : ℕ) (place : Place) (w : Watch) → Stands v readings rules p place w → Tells place (Ok (watch_answer w))
unfolding Tells HoldsNow whole_rule
place_tells v readings rules p vacant w h = ap Ok (answer_free w h)
place_tells v readings rules p (watched sheet []) w h = ap Ok (answer_yet w (watching_held h) h.age_is)
place_tells v readings rules p (watched sheet (r ∷ rows)) w h =
    let k = (sizes_known sheet (cleared_sizes sheet h.clear)).0 in
    let a = h.age_is in
    let last : part_count sheet - 1 < part_count sheet = omega arith in
    let right = h.right (part_count sheet - 1) last (omega arith) in (
      h.marks (part_count sheet - 1),
      ap Ok (answer_truth w (h.marks (part_count sheet - 1)) (watching_held h) (λ z. absurd (omega arith))
          (ap (λ (m : ℕ). get_or w.truths (m - 1) 0) h.parts_are ∙ h.stored (part_count sheet - 1) last)),
      right,
      λ q begins. Iff.trans right (any_run v (part_count sheet) (views_of sheet) (watch_fits v sheet h.clear h.can) (watch_past v sheet h.clear h.can)
          r rows q begins (part_count sheet - 1) last),
    )
