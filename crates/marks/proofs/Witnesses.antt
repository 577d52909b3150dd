-- A witness in order decides U and R from every position on, and where their marks are the truth there is one. Assumes nothing.
use mathlib.Core.Path.{◌≡◌, refl, subst, subst⁻¹}
use mathlib.Core.Bool.{Bool, true, false, cond, not, ◌&&◌}
use mathlib.Core.List.{List}
use mathlib.Core.Logic.Iff
use mathlib.Core.Logic.{◌↔◌, ◌⊎◌, inl, inr, ⊎_elim}
use mathlib.Core.Option.{Option, none, some}
use Prim.Native.Nat.{ℕ, ◌+◌, ◌≤◌, ◌<◌}
use native.Mathlib.Omega.{arith}
use lib.Dec.{T, leb, ltb, eqb, leb→le, ltb→lt, eqb_refl}
use Rattle.cltlb.specs.Views.{two_view}
use Rattle.cltlb.specs.Operators as operator
use Rattle.cltlb.specs.declared.Binary.TheVariants.{Until, Release}
use Rattle.refusal.specs.Lowest.{lowest_from}
use Rattle.refusal.proofs.Lowest.{from_none, from_some}
use Rattle.plan.specs.Layout.{start_rows, cycle_rows, rows}
use Rattle.verdict.proofs.Decisions.{T_true}
use Rattle.marks.specs.Parts.{no_witness, is_cycle_row, names, witness_two, witness_of_operator, witness_in_order}
use Rattle.marks.proofs.Tests.{T-dec, and_iff, not_iff}
use Rattle.marks.proofs.Rows.{last_row, row_at, first_position, from_start, is_row, last_is_row, start_to_last, comes}
use Rattle.marks.proofs.Endless.{Agrees, mark_at}
use Rattle.marks.proofs.Temporal.{Decides}
use Rattle.marks.proofs.WitnessTests.{in_cycle}

-- which way a choice went
cond-true : (c x y : Bool) → T (cond c x y) → T c → T x
cond-true true x y h q = h
cond-true false x y h q = absurd q

cond-false : (c x y : Bool) → T (cond c x y) → T (not c) → T y
cond-false true x y h q = absurd q
cond-false false x y h q = h

module _ (plan : List ℕ) where
  -- a row from P to W - 1 of which a test is true
  abbrev pub Named : (ℕ → Bool) → Type 0
  Named f = (w : ℕ) × (start_rows plan ≤ w) × (w < rows plan) × T (f w)

  named : (w : ℕ) (f : ℕ → Bool) → T (is_cycle_row (start_rows plan) (cycle_rows plan) w && f w) → Named f
  unfolding is_cycle_row rows
  named w f h =
      let p = (and_iff (leb (start_rows plan) w && ltb w (start_rows plan + cycle_rows plan)) (f w) Iff.rfl Iff.rfl).0 h in
      let q = (and_iff (leb (start_rows plan) w) (ltb w (start_rows plan + cycle_rows plan)) Iff.rfl Iff.rfl).0 p.0 in
      (w, leb→le (start_rows plan) w q.0, ltb→lt w (start_rows plan + cycle_rows plan) q.1, p.1)

  pub is_named : (w : ℕ) (f : ℕ → Bool) → start_rows plan ≤ w → w < rows plan → T (f w) → T (names (start_rows plan) (cycle_rows plan) f w)
  unfolding rows
  is_named w f low high h = subst T (in_cycle (start_rows plan) (cycle_rows plan) w f low high refl) h

  module _ (h_c : 1 ≤ cycle_rows plan) where
    -- The row named comes again after every position; where no row is named, the last row comes again, without a mark.
    decides : (B : ℕ → Type 0) (b m : ℕ → Bool) → Agrees (λ t. b (row_at plan t)) B
        → (T (m (last_row plan)) → Named b) → Decides B (λ t. m (row_at plan t))
    decides B b m hb names t = ⊎_elim marked unmarked (T-dec (m (last_row plan)))
      where
        marked : T (m (last_row plan)) → (n : ℕ) × (B (t + n) ⊎ T (not (m (row_at plan (t + n)))))
        marked q =
            let v = names q in
            let c = comes plan h_c v.0 t v.1 v.2 in
            (c.0, inl ((hb (t + c.0)).0 (subst⁻¹ (λ (x : ℕ). T (b x)) c.1 v.3)))

        unmarked : T (not (m (last_row plan))) → (n : ℕ) × (B (t + n) ⊎ T (not (m (row_at plan (t + n)))))
        unmarked q =
            let c = comes plan h_c (last_row plan) t (start_to_last plan h_c) (last_is_row plan h_c) in
            (c.0, inr (subst⁻¹ (λ (x : ℕ). T (not (m x))) c.1 q))

module _ (plan : List ℕ) (mark : ℕ → ℕ → Bool) (h_c : 1 ≤ cycle_rows plan) where
  module _ (B : ℕ → Type 0) (a b i w : ℕ) (hb : Agrees (mark_at plan mark b) B) where
    pub until_decides : T (witness_in_order (start_rows plan) (cycle_rows plan) mark (two_view Until a b) i w) → Decides B (mark_at plan mark i)
    unfolding witness_in_order witness_of_operator witness_two names
    until_decides h =
        decides plan h_c B (mark b) (mark i) hb (λ q. named plan w (mark b)
        (cond-true (mark i (last_row plan)) (is_cycle_row (start_rows plan) (cycle_rows plan) w && mark b w) (eqb w no_witness) h q))

    pub release_decides : T (witness_in_order (start_rows plan) (cycle_rows plan) mark (two_view Release a b) i w) → Decides (λ t. ¬ B t) (λ t. not (mark_at plan mark i t))
    unfolding witness_in_order witness_of_operator witness_two names
    release_decides h =
        decides plan h_c (λ t. ¬ B t) (λ row. not (mark b row)) (λ row. not (mark i row)) (λ t. not_iff (mark_at plan mark b t) (hb t)) (λ q. named plan w (λ row. not (mark b row))
        (cond-false (mark i (last_row plan)) (eqb w no_witness) (is_cycle_row (start_rows plan) (cycle_rows plan) w && not (mark b w)) h q))

  -- Where the marks of U and R are the truth, some number is in order.
  module _ (A B : ℕ → Type 0) (a b i : ℕ) (hb : Agrees (mark_at plan mark b) B) where
    -- the mark on the last row, which is that at its first position
    abbrev final : Bool
    final = mark i (last_row plan)

    at_last : (F : ℕ → Type 0) → Agrees (mark_at plan mark i) F → T final ↔ F (last_row plan)
    at_last F right = subst (λ (row : ℕ). T (mark i row) ↔ F (last_row plan)) (first_position plan (last_row plan) (last_is_row plan h_c)) (right (last_row plan))

    -- U marked on the last row: b holds at some position from there on, and the row of that position serves.
    pub until_served : Agrees (mark_at plan mark i) (operator.Until A B)
        → (w : ℕ) × T (witness_in_order (start_rows plan) (cycle_rows plan) mark (two_view Until a b) i w)
    unfolding witness_in_order witness_of_operator witness_two operator.Until
    until_served right = go final (at_last (operator.Until A B) right).0
      where
        go : (x : Bool) → (T x → operator.Until A B (last_row plan))
            → (w : ℕ) × T (cond x (names (start_rows plan) (cycle_rows plan) (mark b) w) (eqb w no_witness))
        go true u =
            let until = u tt in
            let from = until.1 in
            let low : start_rows plan ≤ until.0 = omega (arith, start_to_last plan h_c) in
            (row_at plan until.0, is_named plan (row_at plan until.0) (mark b) (from_start plan until.0 low) (is_row plan h_c until.0) ((hb until.0).1 until.2))
        go false u = (no_witness, eqb_refl no_witness)

    -- R not marked there: b fails on some cycle row, or R would hold.
    pub release_served : Agrees (mark_at plan mark i) (operator.Release A B)
        → (w : ℕ) × T (witness_in_order (start_rows plan) (cycle_rows plan) mark (two_view Release a b) i w)
    unfolding witness_in_order witness_of_operator witness_two operator.Release rows
    release_served right = go final (at_last (operator.Release A B) right).1 (lowest_from misses (start_rows plan) (cycle_rows plan)) refl
      where
        misses : ℕ → Bool
        misses row = not (mark b row)

        held : (x : Bool) → not x ≡ false → T x
        held true e = tt
        held false e = absurd (subst T e tt)

        go : (x : Bool) → (operator.Release A B (last_row plan) → T x) → (o : Option ℕ) → lowest_from misses (start_rows plan) (cycle_rows plan) ≡ o
            → (w : ℕ) × T (cond x (eqb w no_witness) (names (start_rows plan) (cycle_rows plan) misses w))
        go true r o e = (no_witness, eqb_refl no_witness)
        go false r none e =
            absurd (r (λ j from. inl ((hb j).0 (held (mark b (row_at plan j))
            ((from_none misses (start_rows plan) (cycle_rows plan)).0 e (row_at plan j)
            (from_start plan j (omega (arith, start_to_last plan h_c))) (is_row plan h_c j))))))
        go false r (some w) e =
            let found = (from_some misses (start_rows plan) (cycle_rows plan) w).0 e in
            (w, is_named plan w misses found.0 found.1 ((T_true (misses w)).1 found.2))
