-- Bytes written over: none, one more, two stretches, a lent part, all of them; and what is read before them.
-- Assumes nothing.
use Prim.Native.Nat.{ℕ, ◌+◌, ◌-◌, ◌≤◌, ◌<◌}
use native.Mathlib.Decide.{dec_lt}
use native.Mathlib.Omega.{arith}
use mathlib.Core.Path.{◌≡◌, refl, ap, ◌∙◌, subst, subst⁻¹}
use mathlib.Core.Bool.{Bool}
use mathlib.Core.List.{List, ◌++◌, append-nil}
use mathlib.Core.Logic.{inl, inr, ⊎_elim, by_cases}
use lib.Dec.{eqb}
use lib.ListN.{length, get_or, take, drop, set, length-set, length-append, length-drop, drop_of_length-le, get_or-append}
use lib.Seq.{get_or-set_same, get_or-set_other, get_or-take, get_or-drop, length-take-le, take_all}
use borrow.Rule.Slice.PartMut.{mid_of, put_mid}
use Rattle.fields.proofs.Pieces.{behind}
use Rattle.table.specs.inner.Tables.{flipped, Sized}
use Rattle.table.specs.inner.Stored.{Stored}
use Rattle.table.specs.inner.Sweeps.{marks_from}

module _ (old : List ℕ) (at : ℕ) (bytes : ℕ → ℕ) where
  -- Nothing is written.
  pub stored_none : (low : ℕ) → Stored old old at low low bytes
  stored_none low = record { long = refl; inside = λ k h l. absurd (omega arith); outside = λ j h. refl }

  module _ {new : List ℕ} {low high x : ℕ} (w : Stored old new at low high bytes) where
    -- One more behind those written,
    pub stored_up : low ≤ high → at + high < length old → x ≡ bytes high → Stored old (set new (at + high) x) at low (high + 1) bytes
    stored_up h l e = record {
      long = length-set new (at + high) x ∙ w.long;
      inside = λ k p q. by_cases (dec_lt k high)
          (λ s. get_or-set_other new (at + high) (at + k) x 0 (λ t. omega arith) ∙ w.inside k p s)
          (λ s. let same : k ≡ high = omega arith in
          subst⁻¹ (λ (i : ℕ). get_or (set new (at + high) x) (at + i) 0 ≡ bytes i) same
          (get_or-set_same new (at + high) x 0 (let n = w.long in omega arith) ∙ e));
      outside = λ j s. get_or-set_other new (at + high) j x 0 (λ t. ⊎_elim (λ a. omega arith) (λ a. omega arith) s)
          ∙ w.outside j (⊎_elim inl (λ (a : at + (high + 1) ≤ j). inr (omega arith)) s);
    }

    -- and one more before them.
    pub stored_down : 0 < low → low ≤ high → at + high ≤ length old → x ≡ bytes (low - 1) → Stored old (set new (at + (low - 1)) x) at (low - 1) high bytes
    stored_down h k l e = record {
      long = length-set new (at + (low - 1)) x ∙ w.long;
      inside = λ i p q. by_cases (dec_lt i low)
          (λ s. let same : i ≡ low - 1 = omega arith in
          subst⁻¹ (λ (j : ℕ). get_or (set new (at + (low - 1)) x) (at + j) 0 ≡ bytes j) same
          (get_or-set_same new (at + (low - 1)) x 0 (let n = w.long in omega arith) ∙ e))
          (λ s. get_or-set_other new (at + (low - 1)) (at + i) x 0 (λ t. omega arith) ∙ w.inside i (omega arith) q);
      outside = λ j s. get_or-set_other new (at + (low - 1)) j x 0 (λ t. ⊎_elim (λ a. omega arith) (λ a. omega arith) s)
          ∙ w.outside j (⊎_elim (λ (a : j < at + (low - 1)). inl (omega arith)) inr s);
    }

  -- A byte that lies before what is written.
  pub still : {new : List ℕ} {low high : ℕ} → Stored old new at low high bytes → (j : ℕ) → j < at → get_or new j 0 ≡ get_or old j 0
  still w j l = w.outside j (inl (omega arith))

  -- A mark read before what is written.
  pub still_mark : {new : List ℕ} {low high : ℕ} → Stored old new at low high bytes → (opposite : Bool) (a k : ℕ) → a + k < at → marks_from opposite new a k ≡ marks_from opposite old a k
  still_mark w opposite a k l = ap (λ (x : ℕ). flipped opposite (eqb x 1)) (still w (a + k) l)

-- The same bytes said in another way.
pub stored_same : {old new : List ℕ} {at low high : ℕ} {f g : ℕ → ℕ} → Stored old new at low high f → ((k : ℕ) → low ≤ k → k < high → f k ≡ g k) → Stored old new at low high g
stored_same w h = record { long = w.long; inside = λ k p q. w.inside k p q ∙ h k p q; outside = w.outside }

-- One byte.
pub stored_one : (old : List ℕ) (at y : ℕ) {x : ℕ} → at < length old → x ≡ y → Stored old (set old at x) at 0 1 (λ k. y)
stored_one old at y {x} l e =
    let here : at + 0 ≡ at = omega arith in
    subst (λ (i : ℕ). Stored old (set old i x) at 0 1 (λ k. y)) here (stored_up old at (λ k. y) (stored_none old at (λ k. y) 0) (omega arith) (omega arith) e)

-- Two stretches, the second one right behind the first.
pub stored_join : {old mid new : List ℕ} {at n m : ℕ} {f g h : ℕ → ℕ} → Stored old mid at 0 n f → Stored mid new (at + n) 0 m g
    → ((k : ℕ) → k < n → f k ≡ h k) → ((k : ℕ) → k < m → g k ≡ h (n + k)) → Stored old new at 0 (n + m) h
stored_join {old} {mid} {new} {at} {n} {m} {f} {g} {h} v w p q = record {
  long = w.long ∙ v.long;
  inside = λ k _ l. by_cases (dec_lt k n)
      (λ s. w.outside (at + k) (inl (omega arith)) ∙ v.inside k (omega arith) s ∙ p k s)
      (λ s. let there : n + (k - n) ≡ k = omega arith in
      let place : at + k ≡ at + n + (k - n) = omega arith in
      ap (λ (j : ℕ). get_or new j 0) place ∙ w.inside (k - n) (omega arith) (omega arith) ∙ q (k - n) (omega arith) ∙ ap h there);
  outside = λ j s. w.outside j (⊎_elim (λ (a : j < at + 0). inl (omega arith)) (λ (a : at + (n + m) ≤ j). inr (omega arith)) s)
      ∙ v.outside j (⊎_elim inl (λ (a : at + (n + m) ≤ j). inr (omega arith)) s);
}

-- The part from `at` on was lent, and came back with w over its front.
module _ (l w : List ℕ) (at n : ℕ) (e : length w ≡ n) (room : at + n ≤ length l) where
  abbrev over : List ℕ
  over = take at l ++ (w ++ drop n (drop at l))

  front : length (take at l) ≡ at
  front = length-take-le at l (omega arith)

  stored_over : Stored l over at 0 n (λ k. get_or w k 0)
  stored_over = record {
    long = simp (length-append, front, e, length-drop) (omega arith);
    inside = λ k _ q. behind (take at l) (w ++ drop n (drop at l)) at k front ∙ get_or-append w (drop n (drop at l)) 0 k (omega arith);
    outside = λ j. ⊎_elim
        (λ (h : j < at + 0). get_or-append (take at l) (w ++ drop n (drop at l)) 0 j (omega (arith, front)) ∙ get_or-take at l j 0 (omega arith))
        (λ (h : at + n ≤ j). let place : at + (n + (j - (at + n))) ≡ j = omega arith in
        subst (λ (i : ℕ). get_or over i 0 ≡ get_or l i 0) place
        (behind (take at l) (w ++ drop n (drop at l)) at (n + (j - (at + n))) front
        ∙ behind w (drop n (drop at l)) n (j - (at + n)) e
        ∙ get_or-drop n (drop at l) (j - (at + n)) 0
        ∙ get_or-drop at l (n + (j - (at + n))) 0));
  }

  pub stored_lent : (zs : List ℕ) → zs ≡ w ++ drop n (mid_of at (length l - at) l) → Stored l (put_mid at (length l - at) l zs) at 0 n (λ k. get_or w k 0)
  stored_lent zs lent = subst⁻¹ (λ (x : List ℕ). Stored l x at 0 n (λ k. get_or w k 0)) whole stored_over
    where
      long : length (drop at l) ≤ length l - at
      long = omega (arith, length-drop at l)

      whole : put_mid at (length l - at) l zs ≡ over
      whole =
          ap (λ (x : List ℕ). take at l ++ (zs ++ x)) (drop_of_length-le (drop at l) long)
          ∙ ap (λ (x : List ℕ). take at l ++ x) (append-nil zs ∙ lent ∙ ap (λ (x : List ℕ). w ++ drop n x) (take_all (length l - at) (drop at l) long))

-- A table is as large as it was.
pub stored_sized : {old new : List ℕ} (n w : ℕ) {at low high : ℕ} {g : ℕ → ℕ} → Stored old new at low high g → Sized old n w → Sized new n w
stored_sized n w done s = record { few_parts = s.few_parts; few_rows = s.few_rows; whole = done.long ∙ s.whole }
