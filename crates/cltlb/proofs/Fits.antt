-- What is known of parts that fit. Assumes nothing.
use Prim.Native.Nat.{ℕ, ◌≤◌, ◌<◌}
use native.Mathlib.Omega.{arith}
use mathlib.Core.Path.{◌≡◌, refl}
use mathlib.Core.Bool.{Bool, true, false, not, ◌&&◌, and-eq-true_iff}
use lib.Dec.{ltb, eqb}
use lib.IntN.{ℤ, pos, negsuc}
use lib.Signed.{lt_z, le_z}
use borrow.Author.Tests.{leb-true, ltb-true, ltb-false, lt-ltb, le-ltb, eqb-false, not-true}
use Rattle.cltlb.specs.Week.{week}
use Rattle.cltlb.specs.Fits.{shift_fits, term_fits, window_fits, atom_fits, names_lower, view_fits}
use Rattle.cltlb.specs.declared.Term.{Term}
use Rattle.cltlb.specs.declared.Term.TheVariants.{Constant, Reading}
use Rattle.cltlb.specs.declared.Atom.{Atom}
use Rattle.cltlb.specs.declared.Atom.TheVariants.{Less, Equal, Window, Pinned}
use Rattle.cltlb.specs.declared.Unary.{Unary}
use Rattle.cltlb.specs.declared.Binary.{Binary}
use Rattle.cltlb.specs.declared.Operator.{Operator}
use Rattle.cltlb.specs.declared.Operator.TheVariants.{One, Two}
use Rattle.cltlb.specs.declared.View.{View}
use Rattle.cltlb.specs.declared.View.TheVariants as view

-- A shift from -4 to 4, as a statement; negsuc n is -(n + 1).
abbrev pub ShiftIn : ℤ → Type 0
ShiftIn (pos n) = n ≤ 4
ShiftIn (negsuc n) = n < 4

pub shift_in : (s : ℤ) → shift_fits s ≡ true → ShiftIn s
unfolding shift_fits
shift_in (pos n) h = leb-true n 4 h
shift_in (negsuc n) h =
    let l : n ≤ 3 = ltb-false 3 n (not-true (ltb 3 n) ((and-eq-true_iff (not (ltb 3 n)) true).0 h).0) in omega arith

module _ (v : ℕ) where
  pub reading_fits : (channel : ℕ) (shift : ℤ) → term_fits v (Reading channel shift) ≡ true → (channel < v) × (shift_fits shift ≡ true)
  unfolding term_fits
  reading_fits channel shift h = let p = (and-eq-true_iff (ltb channel v) (shift_fits shift)).0 h in (ltb-true channel v p.0, p.1)

  pub less_fits : (x y : Term) → atom_fits v (Less x y) ≡ true → (term_fits v x ≡ true) × (term_fits v y ≡ true)
  unfolding atom_fits
  less_fits x y h = (and-eq-true_iff (term_fits v x) (term_fits v y)).0 h

  pub equal_fits : (x y : Term) → atom_fits v (Equal x y) ≡ true → (term_fits v x ≡ true) × (term_fits v y ≡ true)
  unfolding atom_fits
  equal_fits x y h = (and-eq-true_iff (term_fits v x) (term_fits v y)).0 h

  pub window_fits_lem : (c : ℕ) (s : ℤ) (from to : ℕ) → atom_fits v (Window c s from to) ≡ true
      → (term_fits v (Reading c s) ≡ true) × (window_fits from to ≡ true)
  unfolding atom_fits
  window_fits_lem c s from to h = (and-eq-true_iff (term_fits v (Reading c s)) (window_fits from to)).0 h

  pub pinned_fits : (c : ℕ) (s : ℤ) → atom_fits v (Pinned c s) ≡ true → term_fits v (Reading c s) ≡ true
  unfolding atom_fits
  pinned_fits c s h = h

  module _ (n : ℕ) where
    pub atom_fits_lem : (x : Atom) → view_fits v n (view.Atom x) ≡ true → atom_fits v x ≡ true
    unfolding view_fits
    atom_fits_lem x h = h

    pub operator_fits : (o : Operator) → view_fits v n (view.Operator o) ≡ true → names_lower n o ≡ true
    unfolding view_fits
    operator_fits o h = h

-- Two minutes of the week that differ.
pub record Ends (from to : ℕ) : Type 0 where
  pub from_fits : from < week
  pub to_fits : to < week
  pub differ : from ≡ to → ⊥

pub ends_fit : (from to : ℕ) → window_fits from to ≡ true → Ends from to
unfolding window_fits
ends_fit from to h =
    let p = (and-eq-true_iff (ltb from week && ltb to week) (not (eqb from to))).0 h in
    let q = (and-eq-true_iff (ltb from week) (ltb to week)).0 p.0 in
    record { from_fits = ltb-true from week q.0; to_fits = ltb-true to week q.1; differ = eqb-false from to (not-true (eqb from to) p.1) }

module _ (n : ℕ) where
  pub one_lower : (o : Unary) (a : ℕ) → names_lower n (One o a) ≡ true → a < n
  unfolding names_lower
  one_lower o a h = ltb-true a n h

  pub two_lower : (o : Binary) (a b : ℕ) → names_lower n (Two o a b) ≡ true → (a < n) × (b < n)
  unfolding names_lower
  two_lower o a b h = let p = (and-eq-true_iff (ltb a n) (ltb b n)).0 h in (ltb-true a n p.0, ltb-true b n p.1)

-- What fits, fits more channels and a higher number.
module _ (v u : ℕ) (h : v ≤ u) where
  pub term_more : (x : Term) → term_fits v x ≡ true → term_fits u x ≡ true
  unfolding term_fits
  term_more (Constant z) e = refl
  term_more (Reading c s) e =
      let p = reading_fits v c s e in
      let l = p.0 in
      simp (lt-ltb c u (omega arith), p.1)

  pub atom_more : (x : Atom) → atom_fits v x ≡ true → atom_fits u x ≡ true
  unfolding atom_fits
  atom_more (Less x y) e = let p = less_fits v x y e in simp (term_more x p.0, term_more y p.1)
  atom_more (Equal x y) e = let p = equal_fits v x y e in simp (term_more x p.0, term_more y p.1)
  atom_more (Window c s from to) e = let p = window_fits_lem v c s from to e in simp (term_more (Reading c s) p.0, p.1)
  atom_more (Pinned c s) e = term_more (Reading c s) (pinned_fits v c s e)

  pub view_more : (m n : ℕ) → m ≤ n → (x : View) → view_fits v m x ≡ true → view_fits u n x ≡ true
  unfolding view_fits names_lower
  view_more m n k (view.Atom x) e = atom_more x e
  view_more m n k (view.Operator (One o a)) e = let l = one_lower m o a e in lt-ltb a n (omega arith)
  view_more m n k (view.Operator (Two o a b)) e =
      let p = two_lower m o a b e in
      let l = p.0 in
      let q = p.1 in
      simp (lt-ltb a n (omega arith), lt-ltb b n (omega arith))

-- ---- a term by the tests that the code makes, one law for each way out

pub fits_constant : (v : ℕ) {x : Term} {z : ℤ} → x ≡ Constant z → true ≡ term_fits v x
unfolding term_fits
fits_constant v e = rw e refl

module _ (v : ℕ) {x : Term} {k : ℕ} {d : ℤ} (e : x ≡ Reading k d) where
  pub fits_channel : v ≤ k → false ≡ term_fits v x
  unfolding term_fits
  fits_channel h = simp (e, le-ltb _ _ h)

  pub fits_low : k < v → lt_z d (negsuc 3) ≡ true → false ≡ term_fits v x
  unfolding term_fits shift_fits
  fits_low h l = simp (e, lt-ltb _ _ h, l)

  pub fits_high : k < v → lt_z d (negsuc 3) ≡ false → le_z d (pos 4) ≡ term_fits v x
  unfolding term_fits shift_fits
  fits_high h l = simp (e, lt-ltb _ _ h, l)

-- ---- a window and a pinned reading by the tests that the code makes

pub fits_window : (v : ℕ) {x : Atom} {c from to : ℕ} {s u : ℤ} {a b : Bool} → x ≡ Window c s from to → u ≡ s
    → a ≡ term_fits v (Reading c u) → b ≡ window_fits from to → (a && b) ≡ atom_fits v x
unfolding atom_fits
fits_window v h e f g = rw (h, f, g, e) refl

pub fits_pinned : (v : ℕ) {x : Atom} {c : ℕ} {s u : ℤ} {a : Bool} → x ≡ Pinned c s → u ≡ s → a ≡ term_fits v (Reading c u) → a ≡ atom_fits v x
unfolding atom_fits
fits_pinned v h e f = rw (h, f, e) refl
