-- The parts gone through in order, by the steps of the nested loops. Assumes nothing.
use Rattle.std.specs.Prelude.{Result, Ok, Err}
use Prim.Native.Nat.{ℕ, ◌+◌, ◌-◌, ◌≤◌, ◌<◌}
use native.Mathlib.Omega.{arith}
use mathlib.Core.Path.{◌≡◌, refl, sym, ap, ap₂, ◌∙◌}
use mathlib.Core.List.{List}
use mathlib.Core.Bool.{Bool, true, false, cond}
use Rattle.cltlb.specs.Views.{view_of}
use Rattle.cltlb.specs.declared.Part.{Part}
use Rattle.cltlb.specs.declared.View.{View}
use Rattle.cltlb.proofs.Fits.{view_more}
use Rattle.refusal.specs.First.{◌or_else◌, at_lowest, in_turn_from, in_turn}
use Rattle.refusal.specs.Outcome.{Outcome, unrefused}
use Rattle.refusal.specs.declared.Refusal.{Refusal}
use Rattle.refusal.specs.declared.Refusal.TheVariants.{Equation}
use Rattle.refusal.proofs.First.{turn_next, turn_end}
use Rattle.refusal.proofs.Search.{search_from, search_starts, search_on, search_stops, search_ends}
use Rattle.rule.specs.Take.{take_of, views_of}
use Rattle.plan.specs.declared.sizes.Sizes.{Sizes}
use Rattle.plan.specs.inner.Sizes.{all_rows}
use Rattle.plan.proofs.Fits.{rows_are}
use Rattle.inputs.proofs.Parts.{taken_same, taken_fitting}
use Rattle.table.specs.Layout.{marked, witness_of}
use Rattle.marks.specs.Parts.{breaks, equation_outcome, closing_outcome, witness_outcome, part_outcome}
use Rattle.marks.specs.inner.PartsRead.{Readable, PartClear}
use Rattle.acceptance.specs.Check.{mark_of, witness_at, parts_outcome}
use Rattle.acceptance.specs.inner.Parts.{Prepared}

-- the three checks on part i, with n parts and w rows, and its witness alone
abbrev pub turn : List ℕ → List ℕ → List ℕ → ℕ → ℕ → ℕ → Outcome
turn rule plan table n w i = part_outcome plan (marked w table) (views_of rule i) i (witness_of n w table i)

abbrev pub eleven : List ℕ → List ℕ → ℕ → ℕ → View → ℕ → Outcome
eleven plan table n w p i = witness_outcome plan (marked w table) p i (witness_of n w table i)

-- the search for a row that breaks the equation, from a row on
abbrev pub rows_from : List ℕ → List ℕ → ℕ → View → ℕ → ℕ → ℕ → Outcome
rows_from plan table w p i most row = search_from (breaks plan (marked w table) p i) most (Equation i) row

module _ (rule plan table : List ℕ) {n : ℕ} {z : Sizes} (prep : Prepared rule plan table n z) where
  -- all parts in turn, with the sizes that were read
  turns_all : in_turn (turn rule plan table n (all_rows z)) n ≡ parts_outcome rule plan table
  unfolding parts_outcome mark_of witness_at
  turns_all = ap₂ (λ (n w : ℕ). in_turn (turn rule plan table n w) n) prep.ready.parts (sym (rows_are prep.ready.fits))

  module _ (i : ℕ) (low : i < n) {t : Result Part Refusal} (e : t ≡ take_of rule i) where
    module _ {part : Part} (f : t ≡ Ok part) {p : View} (g : p ≡ view_of part) where
      same : views_of rule i ≡ p
      same = taken_same rule plan prep.ready i low e f g

      pub readable : Readable plan table n z i p
      readable = record {
        fits = prep.ready.fits;
        sized = prep.sized;
        present = low;
        part_fits = view_more z.channels z.channels (omega arith) i n (omega arith) p (taken_fitting rule plan prep.ready i low e f g);
      }

      -- the outcomes of 10 and of 9
      abbrev pub ten : Outcome
      ten = closing_outcome plan (marked (all_rows z) table) p i

      abbrev pub nine : Outcome
      nine = equation_outcome plan (marked (all_rows z) table) p i

      -- ---- the rows: where all at once were sure, none is looked at; else all of them

      pub searched : (sure : Bool) → (sure ≡ true → PartClear plan table z p i) → (k : ℕ) → k ≡ cond sure 0 (all_rows z)
          → nine ≡ rows_from plan table (all_rows z) p i k 0
      unfolding equation_outcome
      searched true h k d = (h refl).equation ∙ search_ends (breaks plan (marked (all_rows z) table) p i) k (Equation i) 0 (omega arith)
      searched false h k d =
          ap (λ (m : ℕ). at_lowest (breaks plan (marked (all_rows z) table) p i) m (Equation i)) (rows_are prep.ready.fits ∙ sym d)
          ∙ search_starts (breaks plan (marked (all_rows z) table) p i) k (Equation i)

      module _ (k row : ℕ) (so_far : nine ≡ rows_from plan table (all_rows z) p i k row) where
        pub row_met : row < k → {x : Bool} → x ≡ breaks plan (marked (all_rows z) table) p i row → x ≡ false → nine ≡ rows_from plan table (all_rows z) p i k (row + 1)
        row_met l d h = so_far ∙ search_on (breaks plan (marked (all_rows z) table) p i) k (Equation i) row l (sym d ∙ h)

        row_broken : row < k → {x : Bool} → x ≡ breaks plan (marked (all_rows z) table) p i row → x ≡ true → nine ≡ Err (Equation i row)
        row_broken l d h = so_far ∙ sym (search_stops (breaks plan (marked (all_rows z) table) p i) k (Equation i) row l (sym d ∙ h))

        pub rows_met : k ≤ row → nine ≡ unrefused
        rows_met l = so_far ∙ sym (search_ends (breaks plan (marked (all_rows z) table) p i) k (Equation i) row l)

      -- ---- the turn of part i, by what its three checks say

      module _ (up_to_lem : in_turn (turn rule plan table n (all_rows z)) n ≡ in_turn_from (turn rule plan table n (all_rows z)) i (n - i)) where
        later : Outcome
        later = in_turn_from (turn rule plan table n (all_rows z)) (i + 1) (n - (i + 1))

        last : Outcome
        last = eleven plan table n (all_rows z) p i

        taken_up : in_turn (turn rule plan table n (all_rows z)) n ≡ ((ten or_else nine or_else last) or_else later)
        unfolding part_outcome later last
        taken_up =
            up_to_lem
            ∙ turn_next (turn rule plan table n (all_rows z)) i n low
            ∙ ap (λ (q : View). part_outcome plan (marked (all_rows z) table) q i (witness_of n (all_rows z) table i) or_else later) same

        all_refused : {r : Refusal} → ((ten or_else nine or_else last) or_else later) ≡ Err r → Err r ≡ parts_outcome rule plan table
        all_refused h = sym (taken_up ∙ h) ∙ turns_all

        pub closing_refused : {o : Outcome} {r : Refusal} → o ≡ ten → o ≡ Err r → Err r ≡ parts_outcome rule plan table
        unfolding ◌or_else◌
        closing_refused d h = all_refused (ap (λ x. (x or_else nine or_else last) or_else later) (sym d ∙ h))

        module _ {c : Outcome} (is_ten : c ≡ ten) (closed : c ≡ unrefused) where
          after_ten : ((ten or_else nine or_else last) or_else later) ≡ ((nine or_else last) or_else later)
          unfolding ◌or_else◌
          after_ten = ap (λ x. (x or_else nine or_else last) or_else later) (sym is_ten ∙ closed)

          pub equation_refused : (k row : ℕ) → nine ≡ rows_from plan table (all_rows z) p i k row → row < k → {x : Bool}
              → x ≡ breaks plan (marked (all_rows z) table) p i row → x ≡ true → Err (Equation i row) ≡ parts_outcome rule plan table
          unfolding ◌or_else◌
          equation_refused k row so_far l d h = all_refused (after_ten ∙ ap (λ x. (x or_else last) or_else later) (row_broken k row so_far l d h))

          module _ (met : nine ≡ unrefused) where
            after_nine : ((ten or_else nine or_else last) or_else later) ≡ (last or_else later)
            unfolding ◌or_else◌
            after_nine = after_ten ∙ ap (λ x. (x or_else last) or_else later) met

            pub witness_refused : {o : Outcome} {r : Refusal} → o ≡ eleven plan table n (all_rows z) p i → o ≡ Err r → Err r ≡ parts_outcome rule plan table
            unfolding ◌or_else◌ last
            witness_refused d h = all_refused (after_nine ∙ ap (λ x. x or_else later) (sym d ∙ h))

            pub part_passed : {o : Outcome} → o ≡ eleven plan table n (all_rows z) p i → o ≡ unrefused
                → in_turn (turn rule plan table n (all_rows z)) n ≡ in_turn_from (turn rule plan table n (all_rows z)) (i + 1) (n - (i + 1))
            unfolding ◌or_else◌ later last
            part_passed d h = taken_up ∙ after_nine ∙ ap (λ x. x or_else later) (sym d ∙ h)

  -- All parts are passed.
  pub all_passed : (i : ℕ) → in_turn (turn rule plan table n (all_rows z)) n ≡ in_turn_from (turn rule plan table n (all_rows z)) i (n - i) → n ≤ i
      → {o : Outcome} → o ≡ unrefused → o ≡ parts_outcome rule plan table
  all_passed i up_to_lem l d = d ∙ sym (up_to_lem ∙ turn_end (turn rule plan table n (all_rows z)) i n l) ∙ turns_all

-- no more rows are looked at than there are
pub rows_most : (sure : Bool) (k w : ℕ) → k ≡ cond sure 0 w → k ≤ w
rows_most true k w e = omega arith
rows_most false k w e = omega arith
