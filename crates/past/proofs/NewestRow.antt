-- The truths on the newest row are the published ones, where those on the row before were. Assumes nothing.
use Prim.Native.Nat.{ℕ, zero, suc, ◌+◌, ◌-◌, ◌≤◌, ◌<◌}
use native.Mathlib.Nat.{not-suc-le-zero}
use native.Mathlib.Omega.{arith}
use mathlib.Core.Path.{◌≡◌, refl, sym, ap, ap₂, ◌∙◌, subst, subst⁻¹}
use mathlib.Core.Bool.{Bool, true, false, cond, not, ◌&&◌, ◌||◌, true≢false}
use mathlib.Core.List.{List, [], ◌∷◌}
use mathlib.Core.Logic.Iff
use mathlib.Core.Logic.{◌↔◌, ◌⊎◌, inl, inr, ⊎_elim}
use lib.Dec.{T, eqb}
use lib.ListN.{length}
use lib.IntN.{ℤ, pos, negsuc, ◌+ℤ◌}
use borrow.Author.Tests.{eq-eqb, ne_eqb}
use Rattle.fields.proofs.Differences.{sub_pos, sub_neg}
use Rattle.cltlb.specs.Run.{Seen, before_run, Run}
use Rattle.cltlb.specs.Operators as O
use Rattle.cltlb.specs.Truth.{Formula, value_at, AtomHolds, UnaryHolds, BinaryHolds, Holds}
use Rattle.cltlb.specs.Fits.{shift_fits, term_fits, atom_fits, view_fits}
use Rattle.cltlb.specs.Parts.{formula_from, formula_of}
use Rattle.cltlb.specs.declared.Term.{Term}
use Rattle.cltlb.specs.declared.Term.TheVariants.{Constant, Reading}
use Rattle.cltlb.specs.declared.Atom.{Atom}
use Rattle.cltlb.specs.declared.Atom.TheVariants.{Less, Equal, Window, Pinned}
use Rattle.cltlb.specs.declared.Unary.{Unary}
use Rattle.cltlb.specs.declared.Unary.TheVariants as unary
use Rattle.cltlb.specs.declared.Binary.{Binary}
use Rattle.cltlb.specs.declared.Binary.TheVariants as binary
use Rattle.cltlb.specs.declared.Operator.TheVariants.{One, Two}
use Rattle.cltlb.specs.declared.View.{View}
use Rattle.cltlb.specs.declared.View.TheVariants as view
use Rattle.cltlb.proofs.Depth.{formula_made}
use Rattle.cltlb.proofs.Fits.{reading_fits, less_fits, equal_fits, window_fits_lem, pinned_fits, atom_fits_lem, operator_fits, one_lower, two_lower}
use Rattle.cltlb.proofs.Steps.{since_first, since_step, trigger_first, trigger_step}
use Rattle.past.specs.Ahead.{shift_ahead, term_ahead, atom_ahead, unary_ahead, binary_ahead, operator_ahead, view_ahead}
use Rattle.past.specs.Rows.{Row, run_of, BeginsWith}
use Rattle.past.proofs.Tests.{not_iff, and_iff, or_iff, decided, less_decides, equal_decides, window_decides, pinned_decides}
use Rattle.past.proofs.Step.{value_now, atom_now, truth_from, HoldsNow, row_back}
use Rattle.past.proofs.PastOnly.{AgreeTo, terms_past, past_same, past_formula}

-- ---- the run of a list of rows

run_newest : (row : Row) (rows : List Row) (c : ℕ) → run_of (row ∷ rows) c (pos (length rows)) ≡ row c
unfolding run_of
run_newest row rows c = simp (eq-eqb (length rows) (length rows) refl)

run_older : (row : Row) (rows : List Row) (c p : ℕ) → p < length rows → run_of (row ∷ rows) c (pos p) ≡ run_of rows c (pos p)
unfolding run_of
run_older row rows c p h = simp (ne_eqb p (length rows) (λ e. absurd (omega arith)))

run_before : (rows : List Row) (c n : ℕ) → run_of rows c (negsuc n) ≡ before_run
unfolding run_of
run_before [] c n = refl
run_before (row ∷ rows) c n = run_before rows c n

back_at : (rows : List Row) (c k p : ℕ) → p + suc k ≡ length rows → run_of rows c (pos p) ≡ row_back rows k c
unfolding row_back
back_at [] c k p e = absurd (omega arith)
back_at (row ∷ rows) c zero p e = let l : p ≡ length rows = omega arith in ap (λ (m : ℕ). run_of (row ∷ rows) c (pos m)) l ∙ run_newest row rows c
back_at (row ∷ rows) c (suc k) p e = run_older row rows c p (omega arith) ∙ back_at rows c k p (omega arith)

-- The row that is k back stands k positions before the newest.
pub run_back : (rows : List Row) (c k : ℕ) → k < length rows → run_of rows c (pos (length rows - 1 - k)) ≡ row_back rows k c
run_back rows c k h = back_at rows c k (length rows - 1 - k) (omega arith)

-- What the run shows at a shift from the newest row: that row,
pub present_row : (row : Row) (rows : List Row) (c : ℕ) → run_of (row ∷ rows) c (pos (length rows) +ℤ pos 0) ≡ row c
present_row row rows c = let e : length rows + 0 ≡ length rows = omega arith in ap (λ (m : ℕ). run_of (row ∷ rows) c (pos m)) e ∙ run_newest row rows c

module _ (row : Row) (rows : List Row) (c k : ℕ) where
  -- one further back,
  pub older_row : suc k ≤ length rows → run_of (row ∷ rows) c (pos (length rows) +ℤ negsuc k) ≡ row_back (row ∷ rows) (suc k) c
  older_row h =
      ap (run_of (row ∷ rows) c) (sub_pos (length rows) (suc k) h) ∙ back_at (row ∷ rows) c (suc k) (length rows - suc k) (omega arith)

  -- or none.
  pub no_row : length rows < suc k → run_of (row ∷ rows) c (pos (length rows) +ℤ negsuc k) ≡ before_run
  no_row h = ap (run_of (row ∷ rows) c) (sub_neg (length rows) (suc k) h) ∙ run_before (row ∷ rows) c (suc k - suc (length rows))

-- One row more leaves what was seen before.
agree_before : (row last : Row) (rows : List Row) → AgreeTo (run_of (row ∷ (last ∷ rows))) (run_of (last ∷ rows)) (length rows)
unfolding AgreeTo
agree_before row last rows c = (
  λ p h. run_older row (last ∷ rows) c p (omega arith),
  λ n. run_before (row ∷ (last ∷ rows)) c n ∙ sym (run_before (last ∷ rows) c n),
)

-- ---- S and T by the row before, at every position

module _ (A B : ℕ → Type 0) where
  since_back : (t : ℕ) → O.Since A B t ↔ (B t ⊎ (A t × O.Yesterday (O.Since A B) t))
  unfolding O.Yesterday
  since_back zero = Iff.trans (since_first A B) (inl, ⊎_elim (λ b. b) (λ p. absurd p.1))
  since_back (suc t) = since_step A B t

  trigger_back : (t : ℕ) → A t ⊎ (A t → ⊥) → O.Trigger A B t ↔ (B t × (A t ⊎ O.WeakYesterday (O.Trigger A B) t))
  unfolding O.WeakYesterday
  trigger_back zero dec = Iff.trans (trigger_first A B) (λ b. (b, inr tt), λ p. p.0)
  trigger_back (suc t) dec = trigger_step A B t dec

-- ---- one row more

-- Over v channels and n parts that fit and look at no later row.
module _ (v n : ℕ) (parts : ℕ → View) (fits : (i : ℕ) → i < n → view_fits v i (parts i) ≡ true) (past : (i : ℕ) → i < n → view_ahead (parts i) ≡ false) where
  -- The truths on the row before, as the newest row makes use of them.
  module _ (row : Row) (before : ℕ → Bool) where
    was_right : (last : Row) (rows : List Row) → ((i : ℕ) → i < n → 0 < suc (length rows) → T (before i) ↔ HoldsNow (formula_of parts i) (last ∷ rows))
        → (i : ℕ) → i < n → T (before i) ↔ Holds (run_of (row ∷ (last ∷ rows))) (formula_of parts i) (length rows)
    unfolding HoldsNow
    was_right last rows b i h =
        Iff.trans (b i h (omega arith)) (Iff.symm (past_same (run_of (row ∷ (last ∷ rows))) (run_of (last ∷ rows)) (length rows) (agree_before row last rows)
        (formula_of parts i) (past_formula v n parts fits past i h) (length rows) (omega arith)))

    yesterday_right : (rows : List Row) → ((i : ℕ) → i < n → 0 < length rows → T (before i) ↔ HoldsNow (formula_of parts i) rows)
        → (i : ℕ) → i < n → T (cond (eqb (length rows) 0) false (before i)) ↔ O.Yesterday (Holds (run_of (row ∷ rows)) (formula_of parts i)) (length rows)
    unfolding O.Yesterday
    yesterday_right [] b i h = Iff.rfl
    yesterday_right (last ∷ rows) b i h = rw (ne_eqb (suc (length rows)) 0 (λ e. absurd (omega arith))) (was_right last rows b i h)

    weak_right : (rows : List Row) → ((i : ℕ) → i < n → 0 < length rows → T (before i) ↔ HoldsNow (formula_of parts i) rows)
        → (i : ℕ) → i < n → T (cond (eqb (length rows) 0) true (before i)) ↔ O.WeakYesterday (Holds (run_of (row ∷ rows)) (formula_of parts i)) (length rows)
    unfolding O.WeakYesterday
    weak_right [] b i h = Iff.rfl
    weak_right (last ∷ rows) b i h = rw (ne_eqb (suc (length rows)) 0 (λ e. absurd (omega arith))) (was_right last rows b i h)

  module _ (row : Row) (rows : List Row) (seen : ℕ → ℤ → Seen)
      (sees : (c : ℕ) → c < v → (shift : ℤ) → shift_fits shift ≡ true → shift_ahead shift ≡ false → seen c shift ≡ run_of (row ∷ rows) c (pos (length rows) +ℤ shift)) where
    abbrev r : Run
    r = run_of (row ∷ rows)

    abbrev t : ℕ
    t = length rows

    reading_right : (c : ℕ) (s : ℤ) → term_fits v (Reading c s) ≡ true → shift_ahead s ≡ false → seen c s ≡ r c (pos t +ℤ s)
    reading_right c s f p = let q = reading_fits v c s f in sees c q.0 s q.1 p

    value_right : (x : Term) → term_fits v x ≡ true → term_ahead x ≡ false → value_now seen x ≡ value_at r x t
    unfolding term_ahead value_now value_at
    value_right (Constant z) f p = refl
    value_right (Reading c s) f p = reading_right c s f p

    atom_right : (x : Atom) → atom_fits v x ≡ true → atom_ahead x ≡ false → T (atom_now seen x) ↔ AtomHolds r x t
    unfolding atom_ahead atom_now AtomHolds value_at
    atom_right (Less x y) f p =
        let g = less_fits v x y f in
        let o = terms_past x y p in
        rw (value_right x g.0 o.0, value_right y g.1 o.1) (less_decides (value_at r x t) (value_at r y t))
    atom_right (Equal x y) f p =
        let g = equal_fits v x y f in
        let o = terms_past x y p in
        rw (value_right x g.0 o.0, value_right y g.1 o.1) (equal_decides (value_at r x t) (value_at r y t))
    atom_right (Window c s from to) f p = rw (reading_right c s (window_fits_lem v c s from to f).0 p) (window_decides from to (r c (pos t +ℤ s)))
    atom_right (Pinned c s) f p = rw (reading_right c s (pinned_fits v c s f) p) (pinned_decides (r c (pos t +ℤ s)))

    module _ (before m : ℕ → Bool) (right : (i : ℕ) → i < n → 0 < length rows → T (before i) ↔ HoldsNow (formula_of parts i) rows) where
      abbrev first : Bool
      first = eqb (length rows) 0

      -- one part, from the parts that it names
      one_right : (o : Unary) (i a : ℕ) → a < n → unary_ahead o ≡ false → T (m a) ↔ Holds r (formula_of parts a) t
          → T (truth_from seen first before i (view.Operator (One o a)) m) ↔ UnaryHolds o (Holds r (formula_of parts a)) t
      unfolding truth_from unary_ahead UnaryHolds
      one_right unary.Not i a h p e = not_iff (m a) e
      one_right unary.Next i a h p e = absurd (true≢false p)
      one_right unary.Yesterday i a h p e = yesterday_right row before rows right a h
      one_right unary.WeakYesterday i a h p e = weak_right row before rows right a h

      two_right : (o : Binary) (i a b : ℕ) (A B : ℕ → Type 0) → binary_ahead o ≡ false → T (m a) ↔ A t → T (m b) ↔ B t
          → T (cond first false (before i)) ↔ O.Yesterday (BinaryHolds o A B) t → T (cond first true (before i)) ↔ O.WeakYesterday (BinaryHolds o A B) t
          → T (truth_from seen first before i (view.Operator (Two o a b)) m) ↔ BinaryHolds o A B t
      unfolding truth_from binary_ahead BinaryHolds
      two_right binary.And i a b A B p e f y z = and_iff (m a) (m b) e f
      two_right binary.Or i a b A B p e f y z = or_iff (m a) (m b) e f
      two_right binary.Until i a b A B p e f y z = absurd (true≢false p)
      two_right binary.Release i a b A B p e f y z = absurd (true≢false p)
      two_right binary.Since i a b A B p e f y z =
          Iff.trans (or_iff (m b) (m a && cond first false (before i)) f (and_iff (m a) (cond first false (before i)) e y)) (Iff.symm (since_back A B t))
      two_right binary.Trigger i a b A B p e f y z =
          Iff.trans (and_iff (m b) (m a || cond first true (before i)) f (or_iff (m a) (cond first true (before i)) e z)) (Iff.symm (trigger_back A B t (decided (m a) e)))

      from_right : (i : ℕ) (p : View) → i < n → view_fits v i p ≡ true → view_ahead p ≡ false → ((a : ℕ) → a < i → T (m a) ↔ Holds r (formula_of parts a) t)
          → T (cond first false (before i)) ↔ O.Yesterday (Holds r (formula_from p (formula_of parts))) t
          → T (cond first true (before i)) ↔ O.WeakYesterday (Holds r (formula_from p (formula_of parts))) t
          → T (truth_from seen first before i p m) ↔ Holds r (formula_from p (formula_of parts)) t
      unfolding truth_from formula_from view_ahead operator_ahead Holds
      from_right i (view.Atom x) h f p e y z = atom_right x (atom_fits_lem v i x f) p
      from_right i (view.Operator (One o a)) h f p e y z = let l = one_lower i o a (operator_fits v i (One o a) f) in one_right o i a (omega arith) p (e a l)
      from_right i (view.Operator (Two o a b)) h f p e y z =
          let l = two_lower i o a b (operator_fits v i (Two o a b) f) in
          two_right o i a b (Holds r (formula_of parts a)) (Holds r (formula_of parts b)) p (e a l.0) (e b l.1) y z

      module _ (made : (i : ℕ) → i < n → m i ≡ truth_from seen (eqb (length rows) 0) before i (parts i) m) where
        -- the parts below d
        below_right : (d i : ℕ) → i < d → i < n → T (m i) ↔ Holds r (formula_of parts i) t
        below_right zero i k h = absurd (not-suc-le-zero k)
        below_right (suc d) i k h =
            let g = formula_made parts v n fits i h in
            subst⁻¹ (λ (x : Bool). T x ↔ Holds r (formula_of parts i) t) (made i h)
            (subst⁻¹ (λ (f : Formula). T (truth_from seen first before i (parts i) m) ↔ Holds r f t) g
            (from_right i (parts i) h (fits i h) (past i h) (λ a l. below_right d a (omega arith) (omega arith))
            (subst (λ (f : Formula). T (cond first false (before i)) ↔ O.Yesterday (Holds r f) t) g (yesterday_right row before rows right i h))
            (subst (λ (f : Formula). T (cond first true (before i)) ↔ O.WeakYesterday (Holds r f) t) g (weak_right row before rows right i h))))

-- The step. Where the truths are the published ones on the row before, if there is one, those that are made from them and from what is
-- seen are the published ones on the new row.
pub step_right : (v n : ℕ) (parts : ℕ → View)
    → ((i : ℕ) → i < n → view_fits v i (parts i) ≡ true) → ((i : ℕ) → i < n → view_ahead (parts i) ≡ false)
    → (row : Row) (rows : List Row) (seen : ℕ → ℤ → Seen)
    → ((c : ℕ) → c < v → (shift : ℤ) → shift_fits shift ≡ true → shift_ahead shift ≡ false → seen c shift ≡ run_of (row ∷ rows) c (pos (length rows) +ℤ shift))
    → (before m : ℕ → Bool)
    → ((i : ℕ) → i < n → 0 < length rows → T (before i) ↔ HoldsNow (formula_of parts i) rows)
    → ((i : ℕ) → i < n → m i ≡ truth_from seen (eqb (length rows) 0) before i (parts i) m)
    → (i : ℕ) → i < n → T (m i) ↔ HoldsNow (formula_of parts i) (row ∷ rows)
unfolding HoldsNow
step_right v n parts fits past row rows seen sees before m right made i h =
    below_right v n parts fits past row rows seen sees before m right made (suc i) i (omega arith) h

-- The truth of a part is made from those of lower parts alone.
module _ (seen : ℕ → ℤ → Seen) (first : Bool) (before : ℕ → Bool) where
  one_same : (u : Unary) (i a : ℕ) (m o : ℕ → Bool) → m a ≡ o a
      → truth_from seen first before i (view.Operator (One u a)) m ≡ truth_from seen first before i (view.Operator (One u a)) o
  unfolding truth_from
  one_same unary.Not i a m o e = ap not e
  one_same unary.Next i a m o e = refl
  one_same unary.Yesterday i a m o e = refl
  one_same unary.WeakYesterday i a m o e = refl

  two_same : (u : Binary) (i a b : ℕ) (m o : ℕ → Bool) → m a ≡ o a → m b ≡ o b
      → truth_from seen first before i (view.Operator (Two u a b)) m ≡ truth_from seen first before i (view.Operator (Two u a b)) o
  unfolding truth_from
  two_same binary.And i a b m o e f = ap₂ ◌&&◌ e f
  two_same binary.Or i a b m o e f = ap₂ ◌||◌ e f
  two_same binary.Until i a b m o e f = refl
  two_same binary.Release i a b m o e f = refl
  two_same binary.Since i a b m o e f = ap₂ (λ (x y : Bool). y || (x && cond first false (before i))) e f
  two_same binary.Trigger i a b m o e f = ap₂ (λ (x y : Bool). y && (x || cond first true (before i))) e f

  pub truth_same : (p : View) (v i : ℕ) (m o : ℕ → Bool) → view_fits v i p ≡ true → ((a : ℕ) → a < i → m a ≡ o a)
      → truth_from seen first before i p m ≡ truth_from seen first before i p o
  unfolding truth_from
  truth_same (view.Atom x) v i m o f e = refl
  truth_same (view.Operator (One u a)) v i m o f e = one_same u i a m o (e a (one_lower i u a (operator_fits v i (One u a) f)))
  truth_same (view.Operator (Two u a b)) v i m o f e =
      let l = two_lower i u a b (operator_fits v i (Two u a b) f) in two_same u i a b m o (e a l.0) (e b l.1)

agree_begun : (rows : List Row) (row : Row) (q : Run) → BeginsWith q (row ∷ rows) → AgreeTo (run_of (row ∷ rows)) q (length rows)
unfolding AgreeTo BeginsWith
agree_begun rows row q begins c = (
  λ p h. sym ((begins c).0 p (omega arith)),
  λ n. run_before (row ∷ rows) c n ∙ sym ((begins c).1 n),
)

-- On the newest row a formula is as true as on any endless run that begins with the rows.
pub any_run : (v n : ℕ) (parts : ℕ → View)
    → ((i : ℕ) → i < n → view_fits v i (parts i) ≡ true) → ((i : ℕ) → i < n → view_ahead (parts i) ≡ false)
    → (row : Row) (rows : List Row) (q : Run) → BeginsWith q (row ∷ rows)
    → (i : ℕ) → i < n → HoldsNow (formula_of parts i) (row ∷ rows) ↔ Holds q (formula_of parts i) (length rows)
unfolding HoldsNow
any_run v n parts fits past row rows q begins i h =
    past_same (run_of (row ∷ rows)) q (length rows) (agree_begun rows row q begins) (formula_of parts i) (past_formula v n parts fits past i h) (length rows) (omega arith)
