-- Where no row drifts, every part repeats after 4 passes and one more for each nesting of Y, Z, S and T. Assumes nothing.
use mathlib.Core.Path.{◌≡◌, refl, sym, ap, ◌∙◌, subst, subst₂, subst⁻¹}
use mathlib.Core.Bool.{true}
use mathlib.Core.List.{List}
use mathlib.Core.Logic.Iff
use mathlib.Core.Logic.{by_cases}
use Prim.Native.Nat.{ℕ, zero, suc, ◌+◌, ◌*◌, max, ◌≤◌, ◌<◌}
use native.Mathlib.Nat.{mul-le-mul_right, le-max_left, le-max_right, not-suc-le-zero, add-zero}
use native.Mathlib.Decide.{dec_lt}
use native.Mathlib.Omega.{arith}
use lib.IntN.{ℤ, pos, ◌+ℤ◌, ◌*ℤ◌, +ℤ_idr, *ℤ-zero}
use Rattle.cltlb.specs.Run.{under}
use Rattle.cltlb.specs.Truth.{Formula, value_at, AtomHolds, UnaryHolds, BinaryHolds, Holds}
use Rattle.cltlb.specs.Fits.{term_fits, atom_fits, view_fits}
use Rattle.cltlb.specs.Parts.{formula_from, formula_to, formula_of}
use Rattle.cltlb.specs.Nesting.{deeper_one, deeper_two, nesting_from, nesting_to, nesting, deepest}
use Rattle.cltlb.specs.declared.Term.{Term}
use Rattle.cltlb.specs.declared.Term.TheVariants.{Constant, Reading}
use Rattle.cltlb.specs.declared.Atom.{Atom}
use Rattle.cltlb.specs.declared.Atom.TheVariants.{Less, Equal, Window, Pinned}
use Rattle.cltlb.specs.declared.Operator.TheVariants.{One, Two}
use Rattle.cltlb.specs.declared.View.{View}
use Rattle.cltlb.specs.declared.View.TheVariants as view
use Rattle.cltlb.proofs.Fits.{reading_fits, less_fits, equal_fits, window_fits_lem, pinned_fits, atom_fits_lem, operator_fits, one_lower, two_lower}
use Rattle.cltlb.proofs.Repeats.{RepeatsFrom, repeats_later, one_repeats, two_repeats}
use Rattle.plan.specs.Layout.{channels, start_rows, cycle_rows, rows, drift_of}
use Rattle.plan.specs.Run.{run_of}
use Rattle.verdict.specs.Rows.{channel_line, term_line, term_top}
use Rattle.verdict.specs.inner.Reach.{reach}
use Rattle.verdict.specs.Lines.{on_pass}
use Rattle.verdict.proofs.Cycles.{reach_le, read_at, value_later}
use Rattle.marks.specs.Meaning.{Truth, Settled}
use Rattle.marks.proofs.Rows.{row_at, is_row}
use Rattle.settling.proofs.OneRun.{run_settled}

-- A part below m is nested no deeper than the deepest of them.
pub nesting_deepest : (parts : ℕ → View) (m i : ℕ) → i < m → nesting parts i ≤ deepest parts m
unfolding deepest
nesting_deepest parts zero i l = absurd (not-suc-le-zero l)
nesting_deepest parts (suc m) i l =
    let lower = nesting_deepest parts m i in
    by_cases (dec_lt i m)
    (λ q. let h = lower q in omega (arith, le-max_left (deepest parts m) (nesting parts m)))
    (λ q. let e : i ≡ m = omega arith in
    subst⁻¹ (λ (x : ℕ). nesting parts x ≤ max (deepest parts m) (nesting parts m)) e (le-max_right (deepest parts m) (nesting parts m)))

module _ (plan : List ℕ) (some_cycle : 1 ≤ cycle_rows plan)
    (still : (row channel : ℕ) → row < rows plan → channel < channels plan → drift_of plan row channel ≡ pos 0) where
  -- ---- comparisons

  -- The line of a term that is not read before the cycle neither rises nor falls,
  flat : (x : Term) (t : ℕ) → term_fits (channels plan) x ≡ true → start_rows plan + reach x ≤ t → (term_line plan x t).step ≡ pos 0
  unfolding term_line channel_line
  flat (Constant z) t fits l = refl
  flat (Reading c s) t fits l =
      let u = read_at (start_rows plan) t c s l in
      let e : pos t +ℤ s ≡ pos u.0 = simp (add-zero t, add-zero u.0) at (u.2 0) in
      rw e (still (row_at plan u.0) c (is_row plan some_cycle u.0) (reading_fits (channels plan) c s fits).0)

  -- so that the same number is seen on all passes from there on.
  level : (x : Term) (t k : ℕ) → term_fits (channels plan) x ≡ true → start_rows plan + reach x ≤ t
      → value_at (run_of plan) x (t + k * cycle_rows plan) ≡ under (term_top plan x) (term_line plan x t).at
  unfolding on_pass
  level x t k fits l =
      value_later plan some_cycle x t k l
      ∙ ap (under (term_top plan x))
      (ap (λ (z : ℤ). (term_line plan x t).at +ℤ pos k *ℤ z) (flat x t fits l)
      ∙ ap (λ (z : ℤ). (term_line plan x t).at +ℤ z) (*ℤ-zero (pos k))
      ∙ +ℤ_idr (term_line plan x t).at)

  -- A term is seen alike a cycle later.
  value_repeats : (x : Term) (t : ℕ) → term_fits (channels plan) x ≡ true → start_rows plan + 4 ≤ t
      → value_at (run_of plan) x t ≡ value_at (run_of plan) x (t + cycle_rows plan)
  value_repeats x t fits l =
      let r = reach_le (channels plan) x fits in
      let none : t + 0 * cycle_rows plan ≡ t = omega arith in
      let one : t + 1 * cycle_rows plan ≡ t + cycle_rows plan = omega arith in
      subst₂ (λ (m n : ℕ). value_at (run_of plan) x m ≡ value_at (run_of plan) x n) none one
      (level x t 0 fits (omega arith) ∙ sym (level x t 1 fits (omega arith)))

  -- An atom repeats from where its terms are not read before the cycle.
  pub atom_repeats : (x : Atom) → atom_fits (channels plan) x ≡ true → RepeatsFrom (cycle_rows plan) (start_rows plan + 4) (AtomHolds (run_of plan) x)
  unfolding AtomHolds
  atom_repeats (Less x y) fits t l =
      let p = less_fits (channels plan) x y fits in rw (value_repeats x t p.0 l, value_repeats y t p.1 l) Iff.rfl
  atom_repeats (Equal x y) fits t l =
      let p = equal_fits (channels plan) x y fits in rw (value_repeats x t p.0 l, value_repeats y t p.1 l) Iff.rfl
  atom_repeats (Window c s from to) fits t l = rw (value_repeats (Reading c s) t (window_fits_lem (channels plan) c s from to fits).0 l) Iff.rfl
  atom_repeats (Pinned c s) fits t l = rw (value_repeats (Reading c s) t (pinned_fits (channels plan) c s fits) l) Iff.rfl

  -- ---- one part

  -- where a part in which the operators that look back are nested so deep repeats
  abbrev from : ℕ → ℕ
  from d = start_rows plan + (4 + d) * cycle_rows plan

  -- The truth of a formula repeats from there on.
  abbrev Repeats : Formula → ℕ → Type 0
  Repeats g d = RepeatsFrom (cycle_rows plan) (from d) (Holds (run_of plan) g)

  deeper : (g : Formula) (d e : ℕ) → d ≤ e → Repeats g d → Repeats g e
  deeper g d e h r =
      repeats_later (cycle_rows plan) (from d) (Holds (run_of plan) g) r (from e) (omega (arith, mul-le-mul_right (cycle_rows plan) h))

  module _ (f : ℕ → Formula) (deep : ℕ → ℕ) (i : ℕ) (named : (a : ℕ) → a < i → Repeats (f a) (deep a)) where
    -- A part repeats one pass later than the parts that it names if it looks back, and with them otherwise.
    part_repeats : (p : View) → view_fits (channels plan) i p ≡ true → Repeats (formula_from p f) (nesting_from p deep)
    unfolding formula_from Holds nesting_from
    part_repeats (view.Atom x) fits =
        repeats_later (cycle_rows plan) (start_rows plan + 4) (AtomHolds (run_of plan) x) (atom_repeats x (atom_fits_lem (channels plan) i x fits)) (from 0) (omega arith)
    part_repeats (view.Operator (One o a)) fits =
        let l = one_lower i o a (operator_fits (channels plan) i (One o a) fits) in
        let e : from (deep a) + deeper_one o * cycle_rows plan ≡ from (deeper_one o + deep a) = omega arith in
        subst (λ (s : ℕ). RepeatsFrom (cycle_rows plan) s (UnaryHolds o (Holds (run_of plan) (f a)))) e
        (one_repeats (cycle_rows plan) (from (deep a)) some_cycle o (Holds (run_of plan) (f a)) (named a l))
    part_repeats (view.Operator (Two o a b)) fits =
        let l = two_lower i o a b (operator_fits (channels plan) i (Two o a b) fits) in
        let m : ℕ = max (deep a) (deep b) in
        let e : from m + deeper_two o * cycle_rows plan ≡ from (deeper_two o + m) = omega arith in
        subst (λ (s : ℕ). RepeatsFrom (cycle_rows plan) s (BinaryHolds o (Holds (run_of plan) (f a)) (Holds (run_of plan) (f b)))) e
        (two_repeats (cycle_rows plan) (from m) some_cycle o (Holds (run_of plan) (f a)) (Holds (run_of plan) (f b))
        (deeper (f a) (deep a) m (le-max_left (deep a) (deep b)) (named a l.0))
        (deeper (f b) (deep b) m (le-max_right (deep a) (deep b)) (named b l.1)))

  -- ---- all parts

  module _ (parts : ℕ → View) (n : ℕ) (fits : (i : ℕ) → i < n → view_fits (channels plan) i (parts i) ≡ true) where
    to_repeats : (depth i : ℕ) → i < depth → i < n → Repeats (formula_to parts depth i) (nesting_to parts depth i)
    unfolding formula_to nesting_to
    to_repeats zero i q l = absurd (not-suc-le-zero q)
    to_repeats (suc depth) i q l =
        part_repeats (formula_to parts depth) (nesting_to parts depth) i (λ a z. to_repeats depth a (omega arith) (omega arith)) (parts i) (fits i l)

    -- STILL: part i repeats after 4 passes and as many more as Y, Z, S and T are nested in it.
    pub still_repeats : (i : ℕ) → i < n
        → RepeatsFrom (cycle_rows plan) (start_rows plan + (4 + nesting parts i) * cycle_rows plan) (Truth parts plan i)
    unfolding Truth formula_of nesting
    still_repeats i l = to_repeats (suc i) i (omega arith) l

    -- After 4 passes and as many more as they are nested at the deepest, every part repeats.
    pub still_deepest : (i : ℕ) → i < n
        → RepeatsFrom (cycle_rows plan) (start_rows plan + (4 + deepest parts n) * cycle_rows plan) (Truth parts plan i)
    still_deepest i l =
        repeats_later (cycle_rows plan) (from (nesting parts i)) (Truth parts plan i) (still_repeats i l) (from (deepest parts n))
        (omega (arith, mul-le-mul_right (cycle_rows plan) (nesting_deepest parts n i l)))

    -- On a plan of the same run whose cycle begins there, every part is settled.
    pub still_settled : (B : List ℕ) → cycle_rows B ≡ cycle_rows plan → start_rows B ≡ start_rows plan + (4 + deepest parts n) * cycle_rows plan
        → ((c : ℕ) → c < channels plan → (t : ℤ) → run_of B c t ≡ run_of plan c t) → Settled parts n B
    unfolding Settled
    still_settled B same_cycle start same_run_lem i l =
        (run_settled plan B some_cycle same_cycle parts (channels plan) n fits same_run_lem i l).1
        (subst⁻¹ (λ (s : ℕ). RepeatsFrom (cycle_rows plan) s (Truth parts plan i)) start (still_deepest i l))
