-- A comparison labelled row after row by its verdicts, until one changes: what holds on the way and at both ends. Assumes nothing.
use Rattle.std.specs.Prelude.{Err}
use mathlib.Core.Path.{◌≡◌, refl, sym, ap, ◌∙◌, subst}
use mathlib.Core.Bool.{Bool, true, false, cond, false≢true}
use mathlib.Core.List.{List}
use mathlib.Core.Logic.{inl, inr, ⊎_elim}
use Prim.Native.Nat.{ℕ, zero, suc, ◌+◌, ◌*◌, ◌≤◌, ◌<◌}
use native.Mathlib.Numerals.{add-one}
use native.Mathlib.Omega.{arith}
use lib.Dec.{ltb}
use lib.ListN.{length, get_or}
use borrow.Author.Tests.{lt-ltb}
use Rattle.cltlb.specs.declared.Atom.{Atom}
use Rattle.refusal.specs.declared.Refusal.{Refusal}
use Rattle.refusal.specs.declared.Refusal.TheVariants.{Closing}
use Rattle.refusal.specs.Outcome.{Outcome, unrefused}
use Rattle.refusal.proofs.First.{clear_refused}
use Rattle.refusal.proofs.Search.{search_from, search_on, search_stops, search_ends}
use Rattle.plan.specs.Layout.{start_rows, cycle_rows}
use Rattle.plan.specs.declared.sizes.Sizes.{Sizes}
use Rattle.plan.specs.inner.Sizes.{all_rows, Fitting}
use Rattle.verdict.specs.Meaning.{is_changes}
use Rattle.verdict.specs.Comparisons.{comparison_of}
use Rattle.verdict.specs.Rows.{join, join_first, test_at, judge_from, judge_cycle, judge_row, atom_at, verdict_of}
use Rattle.verdict.specs.declared.Comparison.{Comparison}
use Rattle.verdict.specs.declared.Verdict.{Verdict}
use Rattle.verdict.specs.declared.Verdict.TheVariants.{AlwaysTrue, AlwaysFalse, Changes}
use Rattle.table.specs.Bytes.{byte_of}
use Rattle.table.specs.inner.Stored.{Stored}
use Rattle.table.specs.inner.Tables.{most_bytes, Sized}
use Rattle.table.proofs.Places.{cell, area}
use Rattle.table.proofs.Stores.{stored_none, stored_join}
use Rattle.marks.specs.Parts.{steady_outcome}
use Rattle.marks.proofs.PartsChecked.{steady_starts}
use Rattle.labelling.specs.inner.Rows.{is_true, RowsLabelled}

-- ---- a verdict that is no change tells the truth at the row's first position

joined : (b : Bool) (v : Verdict) → is_changes (join b v) ≡ false → is_true (join b v) ≡ b
joined true AlwaysTrue e = refl
joined false AlwaysTrue e = absurd (false≢true (sym e))
joined true AlwaysFalse e = absurd (false≢true (sym e))
joined false AlwaysFalse e = refl
joined b Changes e = absurd (false≢true (sym e))

first_tells : (f : ℕ → Bool) (n : ℕ) (v : Verdict) → is_changes (join_first f (suc n) v) ≡ false → is_true (join_first f (suc n) v) ≡ f 0
unfolding join_first
first_tells f zero v e = joined (f 0) v e
first_tells f (suc n) v e = first_tells f n (join (f (suc n)) v) e

module _ (plan : List ℕ) (x : Comparison) where
  -- a row on which it changes
  abbrev pub changes_on : ℕ → Bool
  changes_on row = is_changes (judge_row plan x row)

  steady_tells : (row : ℕ) → changes_on row ≡ false → is_true (judge_row plan x row) ≡ test_at plan x row
  unfolding judge_row judge_cycle
  steady_tells row = go (ltb row (start_rows plan))
    where
      start : (b : Bool) → is_true (cond b AlwaysTrue AlwaysFalse) ≡ b
      start true = refl
      start false = refl

      first : row + 0 * cycle_rows plan ≡ row
      first = omega arith

      go : (b : Bool) → is_changes (cond b (cond (test_at plan x row) AlwaysTrue AlwaysFalse) (judge_cycle plan x 4 row)) ≡ false
          → is_true (cond b (cond (test_at plan x row) AlwaysTrue AlwaysFalse) (judge_cycle plan x 4 row)) ≡ test_at plan x row
      go true e = start (test_at plan x row)
      go false e =
          first_tells (λ k. test_at plan x (row + k * cycle_rows plan)) 3 (judge_from plan x (row + 4 * cycle_rows plan)) e
          ∙ ap (test_at plan x) first

  -- ---- start rows do not change

  start_steady : (row : ℕ) → row < start_rows plan → changes_on row ≡ false
  unfolding judge_row
  start_steady row l = rw (lt-ltb row (start_rows plan) l) (go (test_at plan x row))
    where
      go : (b : Bool) → is_changes (cond b AlwaysTrue AlwaysFalse) ≡ false
      go true = refl
      go false = refl

-- A search that starts where the test is false up to k goes past k.
search_skips : (f : ℕ → Bool) (n : ℕ) (r : ℕ → Refusal) (k : ℕ) → k ≤ n → ((j : ℕ) → j < k → f j ≡ false) → search_from f n r 0 ≡ search_from f n r k
search_skips f n r zero h t = refl
search_skips f n r (suc k) h t =
    search_skips f n r k (omega arith) (λ j l. t j (omega arith)) ∙ search_on f n r k (omega arith) (t k (omega arith)) ∙ ap (search_from f n r) (add-one k)

-- ---- bytes that are left open

stored_open : {old new : List ℕ} {at n w : ℕ} {f : ℕ → ℕ} → Stored old new at 0 n f → n ≤ w → Stored old new at 0 w (λ k. get_or new (at + k) 0)
stored_open {at = at} {n} {w} s h = record {
  long = s.long;
  inside = λ k p q. refl;
  outside = λ j t. s.outside j (⊎_elim inl (λ (a : at + w ≤ j). inr (omega arith)) t);
}

-- ---- the rows before `row` are labelled

module _ (plan old : List ℕ) (x : Comparison) (i w own : ℕ) where
  abbrev pub Labelling : List ℕ → ℕ → Type 0
  Labelling new row =
      (row ≤ w)
      × (search_from (changes_on plan x) w (Closing i) 0 ≡ search_from (changes_on plan x) w (Closing i) row)
      × Stored old new own 0 row (λ k. byte_of (test_at plan x k))

  pub label_first : Labelling old 0
  label_first = (omega arith, refl, stored_none old own (λ k. byte_of (test_at plan x k)) 0)

  -- the place of the next mark is small,
  pub label_small : {n row : ℕ} → Sized old n w → i < n → own ≡ 4 + (i * w + 0) → row < w → own + row ≤ most_bytes
  label_small {n} {row} sized here e l = omega (arith, cell n w i row here l, area n w sized.few_parts sized.few_rows)

  -- there is room for it,
  pub label_room : {n : ℕ} {new : List ℕ} {row : ℕ} → Sized old n w → i < n → own ≡ 4 + (i * w + 0) → Labelling new row → row < w → own + row < length new
  label_room {n} {new} {row} sized here e s l = omega (arith, sized.whole, s.2.long, cell n w i row here l)

  -- and it is made of the verdict.
  pub label_next : {mid new : List ℕ} {row : ℕ} {v : Verdict} {c m : Bool} → Labelling mid row → row < w → v ≡ judge_row plan x row
      → c ≡ is_changes v → c ≡ false → m ≡ is_true v → Stored mid new (own + row) 0 1 (λ k. byte_of m) → Labelling new (row + 1)
  label_next {row = row} {v} {c} {m} s l e d steady g put =
      let still : changes_on plan x row ≡ false = sym (ap is_changes e) ∙ sym d ∙ steady in
      let mark : m ≡ test_at plan x row = g ∙ ap is_true e ∙ steady_tells plan x row still in (
        omega arith,
        s.1 ∙ search_on (changes_on plan x) w (Closing i) row l still,
        stored_join s.2 put (λ k _. refl) (λ k q. let same : row ≡ row + k = omega arith in ap byte_of (mark ∙ ap (test_at plan x) same)),
      )

-- ---- both ends

module _ (plan old : List ℕ) {z : Sizes} (fit : Fitting plan z) (i own : ℕ) (at : own ≡ 4 + (i * all_rows z + 0))
    (a : Atom) {x : Comparison} (is : x ≡ comparison_of a) where
  -- the whole search starts with row 0
  steady_search : steady_outcome plan a i ≡ search_from (changes_on plan x) (all_rows z) (Closing i) 0
  unfolding verdict_of
  steady_search =
      steady_starts plan old fit i a
      ∙ sym (search_skips (changes_on plan (comparison_of a)) (all_rows z) (Closing i) z.start (omega arith)
      (λ j l. start_steady plan (comparison_of a) j (omega (arith, fit.p_is))))
      ∙ ap (λ (y : Comparison). search_from (changes_on plan y) (all_rows z) (Closing i) 0) (sym is)

  -- what is answered, and what then stands on the rows
  abbrev pub Ends : List ℕ → Outcome → Type 0
  Ends new r = (r ≡ steady_outcome plan a i) × RowsLabelled old new (all_rows z) i r (atom_at plan a)

  place : own ≡ 4 + i * all_rows z
  place = omega arith

  rows_open : {new : List ℕ} {row : ℕ} → Labelling plan old x i (all_rows z) own new row
      → (bytes : ℕ → ℕ) × Stored old new (4 + i * all_rows z) 0 (all_rows z) bytes
  rows_open {new} s = (
    λ k. get_or new (own + k) 0,
    subst (λ (m : ℕ). Stored old new m 0 (all_rows z) (λ k. get_or new (own + k) 0)) place (stored_open s.2 s.0),
  )

  pub label_stops : {new : List ℕ} {row : ℕ} {v : Verdict} {c : Bool} → Labelling plan old x i (all_rows z) own new row → row < all_rows z
      → v ≡ judge_row plan x row → c ≡ is_changes v → c ≡ true → Ends new (Err (Closing i row))
  label_stops {row = row} s l e d t = (
    search_stops (changes_on plan x) (all_rows z) (Closing i) row l (sym (ap is_changes e) ∙ sym d ∙ t) ∙ sym s.1 ∙ sym steady_search,
    record { rows_alone = rows_open s; made = λ k. absurd (clear_refused k) },
  )

  pub label_ends : {new : List ℕ} {row : ℕ} → Labelling plan old x i (all_rows z) own new row → all_rows z ≤ row → Ends new unrefused
  unfolding atom_at
  label_ends {new} {row} s h = (
    search_ends (changes_on plan x) (all_rows z) (Closing i) row h ∙ sym s.1 ∙ sym steady_search,
    record { rows_alone = rows_open s; made = λ _. all },
  )
    where
      same : row ≡ all_rows z
      same = let l = s.0 in omega arith

      by_test : Stored old new (4 + i * all_rows z) 0 (all_rows z) (λ k. byte_of (test_at plan x k))
      by_test = subst (λ (m : ℕ). Stored old new m 0 (all_rows z) (λ k. byte_of (test_at plan x k))) place
          (subst (λ (n : ℕ). Stored old new own 0 n (λ k. byte_of (test_at plan x k))) same s.2)

      all : Stored old new (4 + i * all_rows z) 0 (all_rows z) (λ k. byte_of (test_at plan (comparison_of a) k))
      all = subst (λ (y : Comparison). Stored old new (4 + i * all_rows z) 0 (all_rows z) (λ k. byte_of (test_at plan y k))) is by_test
