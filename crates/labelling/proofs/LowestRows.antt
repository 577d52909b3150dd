-- The lowest witness of a part, as the code comes to it. Assumes nothing.
use Rattle.std.specs.Prelude.{Option, Some, None, MatchOption, unwrap_or}
use mathlib.Core.Option as maybe
use mathlib.Core.Path.{◌≡◌, refl, sym, ap, ap₂, ◌∙◌, subst}
use mathlib.Core.Bool.{Bool, true, false, not}
use mathlib.Core.List.{List}
use Prim.Native.Nat.{ℕ, ◌+◌, ◌-◌, ◌≤◌, ◌<◌}
use native.Mathlib.Omega.{arith}
use lib.Dec.{eqb}
use borrow.Author.Tests.{ne_eqb}
use Rattle.cltlb.specs.Fits.{view_fits}
use Rattle.cltlb.specs.declared.Atom.{Atom}
use Rattle.cltlb.specs.declared.Unary.{Unary}
use Rattle.cltlb.specs.declared.Binary.{Binary}
use Rattle.cltlb.specs.declared.Binary.TheVariants.{And, Or, Until, Release, Since, Trigger}
use Rattle.cltlb.specs.declared.Operator.TheVariants.{One, Two}
use Rattle.cltlb.specs.declared.View.{View}
use Rattle.cltlb.specs.declared.View.TheVariants as view
use Rattle.cltlb.proofs.Fits.{operator_fits, two_lower}
use Rattle.refusal.specs.Lowest.{lowest_from}
use Rattle.refusal.proofs.Lowest.{from_none, from_some, from_ext}
use Rattle.plan.specs.Layout.{start_rows, cycle_rows, rows}
use Rattle.plan.specs.Positions.{last}
use Rattle.plan.specs.declared.sizes.Sizes.{Sizes}
use Rattle.plan.specs.inner.Sizes.{all_rows, Fitting}
use Rattle.marks.specs.Parts.{no_witness, names, witness_two, witness_of_operator, witness_in_order}
use Rattle.marks.proofs.PartsChecked.{own_cycle}
use Rattle.marks.proofs.WitnessTests.{in_cycle}
use Rattle.labelling.specs.Labels.{or_none, lowest_witness}
use Rattle.labelling.specs.inner.Rows.{found, lowest_two}
use Rattle.labelling.proofs.Labelled.{lowest_small}

-- ---- what a search for a row finds

pub row_found : (f : ℕ → Bool) (P C : ℕ) (r : Option ℕ)
    → MatchOption r ((k : ℕ) → P ≤ k → k < P + C → f k ≡ false) (λ i. (P ≤ i) × (i < P + C) × (f i ≡ true) × ((k : ℕ) → P ≤ k → k < i → f k ≡ false))
    → r ≡ found (lowest_from f P C)
row_found f P C None h = sym (ap found ((from_none f P C).1 h))
row_found f P C (Some i) h = sym (ap found ((from_some f P C i).1 h))

-- and its number
found_number : (o : maybe.Option ℕ) → unwrap_or (found o) no_witness ≡ or_none o
unfolding or_none
found_number maybe.none = refl
found_number (maybe.some row) = refl

-- ---- parts

module _ (P C : ℕ) (few : P + C ≤ 256) where
  -- No row is 65535.
  none_found : lowest_from (λ w. eqb w no_witness) P C ≡ maybe.none
  none_found = (from_none (λ w. eqb w no_witness) P C).1 (λ w _ l. ne_eqb w no_witness (λ e. omega arith))

  -- On the cycle rows to name a row is to have the mark there.
  named_found : (test : ℕ → Bool) → lowest_from (names P C test) P C ≡ lowest_from test P C
  named_found test = from_ext (names P C test) test P C (λ w h l. sym (in_cycle P C w test h l refl))

  two_found : (o : Binary) (m : Bool) (b : ℕ → Bool) → lowest_from (λ w. witness_two P C o m b w) P C ≡ lowest_two P C o m b
  unfolding witness_two
  two_found And m b = none_found
  two_found Or m b = none_found
  two_found Since m b = none_found
  two_found Trigger m b = none_found
  two_found Until true b = named_found b
  two_found Until false b = none_found
  two_found Release true b = none_found
  two_found Release false b = named_found (λ row. not (b row))

module _ (plan : List ℕ) {z : Sizes} (fit : Fitting plan z) (mark : ℕ → ℕ → Bool) (i : ℕ) where
  -- the lowest witness, which two bytes hold
  abbrev pub Lowest : View → ℕ → Type 0
  Lowest p r = (r ≡ lowest_witness plan mark p i) × (r < 65536)

  few : start_rows plan + cycle_rows plan ≤ 256
  few = omega (arith, fit.p_is, fit.c_is, fit.few_rows)

  small : (p : View) {r : ℕ} → r ≡ lowest_witness plan mark p i → Lowest p r
  unfolding rows
  small p e = (e, subst (λ (k : ℕ). k < 65536) (sym e) (lowest_small plan (own_cycle fit) mark few p i))

  none : no_witness ≡ or_none (lowest_from (λ w. eqb w no_witness) (start_rows plan) (cycle_rows plan))
  unfolding or_none
  none = sym (ap or_none (none_found (start_rows plan) (cycle_rows plan) few))

  module _ {p : View} where
    pub atom_lowest : {a : Atom} → p ≡ view.Atom a → Lowest p no_witness
    unfolding lowest_witness witness_in_order
    atom_lowest {a} e = subst (λ (q : View). Lowest q no_witness) (sym e) (small (view.Atom a) none)

    pub one_lowest : {s : Unary} {a : ℕ} → p ≡ view.Operator (One s a) → Lowest p no_witness
    unfolding lowest_witness witness_in_order witness_of_operator
    one_lowest {s} {a} e = subst (λ (q : View). Lowest q no_witness) (sym e) (small (view.Operator (One s a)) none)

    module _ {s : Binary} {a b : ℕ} (e : p ≡ view.Operator (Two s a b)) where
      pub second_there : (n : ℕ) → i < n → view_fits z.channels i p ≡ true → b < n
      second_there n l h =
          let fits = subst (λ (q : View). view_fits z.channels i q ≡ true) e h in
          let low = (two_lower i s a b (operator_fits z.channels i (Two s a b) fits)).1 in
          omega arith

      pub two_lowest : {m : Bool} {r : Option ℕ} {k : ℕ} → m ≡ mark i (all_rows z - 1) → r ≡ found (lowest_two z.start z.cycle s m (mark b))
          → k ≡ unwrap_or r no_witness → Lowest p k
      unfolding lowest_witness witness_in_order witness_of_operator last
      two_lowest {m} {r} {k} f h g =
          let row = lowest_two z.start z.cycle s m (mark b) in
          let here = ap (λ (x : Bool). lowest_two z.start z.cycle s x (mark b)) f in
          let is = ap₂ (λ (P C : ℕ). lowest_two P C s (mark i (P + C - 1)) (mark b)) (sym fit.p_is) (sym fit.c_is) in
          let own = sym (two_found (start_rows plan) (cycle_rows plan) few s (mark i (start_rows plan + cycle_rows plan - 1)) (mark b)) in
          subst (λ (q : View). Lowest q k) (sym e)
          (small (view.Operator (Two s a b)) (g ∙ ap (λ (o : Option ℕ). unwrap_or o no_witness) h ∙ found_number row ∙ ap or_none (here ∙ is ∙ own)))
