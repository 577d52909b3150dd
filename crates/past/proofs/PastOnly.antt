-- A formula that looks at no later row is true or false by the rows up to the present one. Assumes nothing.
use Prim.Native.Nat.{ℕ, zero, suc, ◌+◌, ◌-◌, ◌≤◌, ◌<◌}
use native.Mathlib.Decide.{dec_lt}
use native.Mathlib.Omega.{arith}
use mathlib.Core.Path.{◌≡◌, refl, sym, ap, ◌∙◌}
use mathlib.Core.Bool.{true, false, true≢false}
use mathlib.Core.Logic.Iff
use mathlib.Core.Logic.{◌↔◌, ◌⊎◌, inl, inr, ⊎_elim, by_cases}
use lib.IntN.{ℤ, pos, negsuc, ◌+ℤ◌}
use lib.Signed.{◌<ℤ◌}
use borrow.Author.Tests.{ltb-false}
use Rattle.fields.proofs.Differences.{sub_pos, sub_neg}
use Rattle.cltlb.specs.Run.{Run}
use Rattle.cltlb.specs.Operators as O
use Rattle.cltlb.specs.Truth.{Formula, value_at, Compared, AtomHolds, UnaryHolds, BinaryHolds, Holds}
use Rattle.cltlb.specs.Parts.{formula_from, formula_to, formula_of}
use Rattle.cltlb.specs.Fits.{view_fits}
use Rattle.cltlb.specs.declared.Term.{Term}
use Rattle.cltlb.specs.declared.Term.TheVariants.{Constant, Reading}
use Rattle.cltlb.specs.declared.Atom.{Atom}
use Rattle.cltlb.specs.declared.Atom.TheVariants.{Less, Equal, Window, Pinned}
use Rattle.cltlb.specs.declared.Unary.{Unary}
use Rattle.cltlb.specs.declared.Unary.TheVariants as unary
use Rattle.cltlb.specs.declared.Binary.{Binary}
use Rattle.cltlb.specs.declared.Binary.TheVariants as binary
use Rattle.cltlb.specs.declared.Operator.TheVariants.{One, Two}
use Rattle.cltlb.specs.declared.View.{View}
use Rattle.cltlb.specs.declared.View.TheVariants as view
use Rattle.cltlb.proofs.Fits.{operator_fits, one_lower, two_lower}
use Rattle.past.specs.Ahead.{shift_ahead, term_ahead, atom_ahead, unary_ahead, binary_ahead, operator_ahead, view_ahead}
use Rattle.past.proofs.Tests.{or-false}

-- no X, U or R in it, and no shift above 0
unfoldable pub Past : Formula → Type 0
Past (Formula.atom x) = atom_ahead x ≡ false
Past (Formula.one o f) = (unary_ahead o ≡ false) × Past f
Past (Formula.two o f g) = (binary_ahead o ≡ false) × Past f × Past g

-- Two runs show the same up to position t, and before the run.
unfoldable pub AgreeTo : Run → Run → ℕ → Type 0
AgreeTo r q t = (c : ℕ) → ((p : ℕ) → p ≤ t → r c (pos p) ≡ q c (pos p)) × ((n : ℕ) → r c (negsuc n) ≡ q c (negsuc n))

-- A shift of a past formula that is not below 0 is 0.
pub shift_past : (n : ℕ) → shift_ahead (pos n) ≡ false → n ≤ 0
unfolding shift_ahead
shift_past n e = ltb-false 0 n e

pub terms_past : (x y : Term) → atom_ahead (Less x y) ≡ false → (term_ahead x ≡ false) × (term_ahead y ≡ false)
unfolding atom_ahead
terms_past x y e = or-false (term_ahead x) (term_ahead y) e

-- ---- the operators that look back, over statements that are the same up to t

abbrev Same : (ℕ → Type 0) → (ℕ → Type 0) → ℕ → Type 0
Same A A' t = (u : ℕ) → u ≤ t → A u ↔ A' u

⊎-iff : {A A' B B' : Type 0} → A ↔ A' → B ↔ B' → (A ⊎ B) ↔ (A' ⊎ B')
⊎-iff f g = (⊎_elim (λ x. inl (f.0 x)) (λ y. inr (g.0 y)), ⊎_elim (λ x. inl (f.1 x)) (λ y. inr (g.1 y)))

module _ (A B A' B' : ℕ → Type 0) (t : ℕ) where
  since_to : Same A A' t → Same B B' t → (u : ℕ) → u ≤ t → O.Since A B u → O.Since A' B' u
  unfolding O.Since
  since_to f g u h s = (s.0, s.1, (g s.0 (let l = s.1 in omega arith)).0 s.2, λ k a b. (f k (omega arith)).0 (s.3 k a b))

  trigger_to : Same A A' t → Same B B' t → (u : ℕ) → u ≤ t → O.Trigger A B u → O.Trigger A' B' u
  unfolding O.Trigger
  trigger_to f g u h s j l =
      ⊎_elim
      (λ b. inl ((g j (omega arith)).0 b))
      (λ p. inr (p.0, p.1, p.2, (f p.0 (let m = p.2 in omega arith)).0 p.3))
      (s j l)

back : {A A' : ℕ → Type 0} {t : ℕ} → Same A A' t → Same A' A t
back f u h = ((f u h).1, (f u h).0)

yesterday_same : (A A' : ℕ → Type 0) (t : ℕ) → Same A A' t → Same (O.Yesterday A) (O.Yesterday A') t
unfolding O.Yesterday
yesterday_same A A' t f zero h = Iff.rfl
yesterday_same A A' t f (suc u) h = f u (omega arith)

weak_same : (A A' : ℕ → Type 0) (t : ℕ) → Same A A' t → Same (O.WeakYesterday A) (O.WeakYesterday A') t
unfolding O.WeakYesterday
weak_same A A' t f zero h = Iff.rfl
weak_same A A' t f (suc u) h = f u (omega arith)

module _ (A A' : ℕ → Type 0) (t : ℕ) (f : Same A A' t) where
  one_same : (o : Unary) → unary_ahead o ≡ false → Same (UnaryHolds o A) (UnaryHolds o A') t
  unfolding unary_ahead UnaryHolds
  one_same unary.Not e u h = Iff.not (f u h)
  one_same unary.Next e u h = absurd (true≢false e)
  one_same unary.Yesterday e u h = yesterday_same A A' t f u h
  one_same unary.WeakYesterday e u h = weak_same A A' t f u h

  module _ (B B' : ℕ → Type 0) (g : Same B B' t) where
    two_same : (o : Binary) → binary_ahead o ≡ false → Same (BinaryHolds o A B) (BinaryHolds o A' B') t
    unfolding binary_ahead BinaryHolds
    two_same binary.And e u h = Iff.and (f u h) (g u h)
    two_same binary.Or e u h = ⊎-iff (f u h) (g u h)
    two_same binary.Until e u h = absurd (true≢false e)
    two_same binary.Release e u h = absurd (true≢false e)
    two_same binary.Since e u h = (since_to A B A' B' t f g u h, since_to A' B' A B t (back f) (back g) u h)
    two_same binary.Trigger e u h = (trigger_to A B A' B' t f g u h, trigger_to A' B' A B t (back f) (back g) u h)

-- ---- past formulas

module _ (r q : Run) (t : ℕ) (agree : AgreeTo r q t) where
  seen_same : (c : ℕ) (s : ℤ) → shift_ahead s ≡ false → (u : ℕ) → u ≤ t → r c (pos u +ℤ s) ≡ q c (pos u +ℤ s)
  unfolding AgreeTo
  seen_same c (pos n) p u h = let l = shift_past n p in (agree c).0 (u + n) (omega arith)
  seen_same c (negsuc n) p u h =
      by_cases (dec_lt u (suc n))
      (λ l. ap (r c) (sub_neg u (suc n) l) ∙ (agree c).1 (suc n - suc u) ∙ sym (ap (q c) (sub_neg u (suc n) l)))
      (λ l. let k : suc n ≤ u = omega arith in ap (r c) (sub_pos u (suc n) k) ∙ (agree c).0 (u - suc n) (omega arith) ∙ sym (ap (q c) (sub_pos u (suc n) k)))

  value_same : (x : Term) → term_ahead x ≡ false → (u : ℕ) → u ≤ t → value_at r x u ≡ value_at q x u
  unfolding term_ahead value_at
  value_same (Constant z) p u h = refl
  value_same (Reading c s) p u h = seen_same c s p u h

  compared_same : (R : ℤ → ℤ → Type 0) (x y : Term) → atom_ahead (Less x y) ≡ false → (u : ℕ) → u ≤ t
      → Compared R (value_at r x u) (value_at r y u) ↔ Compared R (value_at q x u) (value_at q y u)
  compared_same R x y e u h = let p = terms_past x y e in rw (value_same x p.0 u h, value_same y p.1 u h) Iff.rfl

  atom_same : (x : Atom) → atom_ahead x ≡ false → (u : ℕ) → u ≤ t → AtomHolds r x u ↔ AtomHolds q x u
  unfolding atom_ahead AtomHolds value_at
  atom_same (Less x y) e u h = compared_same ◌<ℤ◌ x y e u h
  atom_same (Equal x y) e u h = compared_same ◌≡◌ x y e u h
  atom_same (Window c s from to) e u h = rw (seen_same c s e u h) Iff.rfl
  atom_same (Pinned c s) e u h = rw (seen_same c s e u h) Iff.rfl

  -- Where two runs agree up to position t, a formula that looks at no later row holds on one where it does on the other, at t and before.
  pub past_same : (f : Formula) → Past f → (u : ℕ) → u ≤ t → Holds r f u ↔ Holds q f u
  unfolding Past Holds
  past_same (Formula.atom x) p u h = atom_same x p u h
  past_same (Formula.one o f) p u h = one_same (Holds r f) (Holds q f) t (past_same f p.1) o p.0 u h
  past_same (Formula.two o f g) p u h = two_same (Holds r f) (Holds q f) t (past_same f p.1) (Holds r g) (Holds q g) (past_same g p.2) o p.0 u h

-- Parts that look at no later row make formulas that do not.
past_from : (v i : ℕ) (p : View) (f : ℕ → Formula) → view_fits v i p ≡ true → view_ahead p ≡ false → ((a : ℕ) → a < i → Past (f a)) → Past (formula_from p f)
unfolding formula_from view_ahead operator_ahead Past
past_from v i (view.Atom x) f fits p h = p
past_from v i (view.Operator (One o a)) f fits p h = (p, h a (one_lower i o a (operator_fits v i (One o a) fits)))
past_from v i (view.Operator (Two o a b)) f fits p h =
    let l = two_lower i o a b (operator_fits v i (Two o a b) fits) in (p, h a l.0, h b l.1)

module _ (v n : ℕ) (parts : ℕ → View) (fits : (i : ℕ) → i < n → view_fits v i (parts i) ≡ true) (past : (i : ℕ) → i < n → view_ahead (parts i) ≡ false) where
  past_to : (d i : ℕ) → i < n → Past (formula_to parts d i)
  unfolding formula_to Past atom_ahead term_ahead
  past_to zero i h = refl
  past_to (suc d) i h = past_from v i (parts i) (formula_to parts d) (fits i h) (past i h) (λ a l. past_to d a (omega arith))

  pub past_formula : (i : ℕ) → i < n → Past (formula_of parts i)
  unfolding formula_of
  past_formula i h = past_to (suc i) i h
