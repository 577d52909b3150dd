-- Marks that are made as the definition says meet their equations, and the lowest witness of such a part is in order. Assumes
-- nothing.
use mathlib.Core.Path.{◌≡◌, refl, sym, ap, ◌∙◌, subst}
use mathlib.Core.Bool.{Bool, true, false, cond, not, ◌&&◌, ◌||◌}
use mathlib.Core.List.{List}
use mathlib.Core.Option.{Option, none, some}
use mathlib.Core.Logic.Iff
use mathlib.Core.Logic.{by_cases, ◌⊎◌, inl, inr, ⊎_elim}
use Prim.Native.Nat.{ℕ, zero, suc, ◌+◌, ◌-◌, ◌≤◌, ◌<◌}
use native.Mathlib.Decide.{dec_lt}
use native.Mathlib.Omega.{arith}
use lib.Dec.{T, leb, ltb, eqb, leb→le, ltb→lt, eqb_refl, eqb→eq}
use Rattle.cltlb.specs.declared.Binary.{Binary}
use Rattle.cltlb.specs.declared.Binary.TheVariants.{And, Or, Until, Release, Since, Trigger}
use Rattle.cltlb.specs.declared.Operator.{Operator}
use Rattle.cltlb.specs.declared.Operator.TheVariants.{One, Two}
use Rattle.cltlb.specs.declared.View.{View}
use Rattle.cltlb.specs.declared.View.TheVariants as view
use Rattle.refusal.specs.Lowest.{lowest_from}
use Rattle.refusal.proofs.Lowest.{FalseFrom, from_none, from_some}
use Rattle.plan.specs.Layout.{start_rows, cycle_rows, rows}
use Rattle.plan.specs.Positions.{last, after}
use Rattle.plan.proofs.Rows.{after_last, after_other}
use Rattle.verdict.proofs.Decisions.{T_true}
use Rattle.marks.specs.declared.operators.Beside.{Beside}
use Rattle.marks.specs.declared.operators.Beside.TheVariants.{After, Before}
use Rattle.marks.specs.Equations.{beside_of, watched, step_on, mark_beside, operator_mark, expected}
use Rattle.marks.specs.Parts.{no_witness, is_cycle_row, names, witness_two, witness_of_operator, witness_in_order, running}
use Rattle.marks.proofs.Rows.{last_row, last_is_row, start_to_last, after_is_row}
use Rattle.marks.proofs.Tests.{T-dec, and_iff, or_iff}
use Rattle.marks.proofs.Witnesses.{Named, is_named}
use Rattle.marks.proofs.ByMarks.{truth_watched}
use Rattle.marks.proofs.Unrolled.{OnRows}
use Rattle.labelling.specs.Labels.{following, label_by, operator_label, label_of, or_none, lowest_witness}
use Rattle.labelling.proofs.Following.{ahead_step}

module _ (plan : List ℕ) (mark : ℕ → ℕ → Bool) where
  -- The marks of part i are made as the definition says.
  abbrev pub Labelled : View → ℕ → Type 0
  Labelled p i = (row : ℕ) → row < rows plan → mark i row ≡ label_of plan mark p row

module _ (plan : List ℕ) (h_c : 1 ≤ cycle_rows plan) (mark : ℕ → ℕ → Bool) where
  -- ---- equations

  by_side : (o : Operator) (i : ℕ) (s : Beside) → ((row : ℕ) → row < rows plan → mark i row ≡ label_by (start_rows plan) (cycle_rows plan) mark s o row)
      → (row : ℕ) → row < rows plan → mark i row ≡ step_on mark o row (mark_beside (start_rows plan) (cycle_rows plan) s (mark (watched o i)) row)
  unfolding label_by mark_beside running rows
  by_side o i After h row l =
      let next = after (start_rows plan) (cycle_rows plan) row in
      h row l
      ∙ ahead_step (start_rows plan) (cycle_rows plan) h_c mark o row l
      ∙ ap (step_on mark o row) (truth_watched mark o i next (sym (h next (after_is_row plan h_c row l))))
  by_side o i (Before first) h zero l = h 0 l
  by_side o i (Before first) h (suc row) l = h (suc row) l ∙ ap (step_on mark o (suc row)) (truth_watched mark o i row (sym (h row (omega arith))))

  pub label_meets : (p : View) (i : ℕ) → Labelled plan mark p i → OnRows plan mark p i
  unfolding label_of operator_label expected operator_mark
  label_meets (view.Atom x) i h row l = h row l
  label_meets (view.Operator o) i h row l = by_side o i (beside_of o) h row l

  -- ---- witnesses

  abbrev P : ℕ
  P = start_rows plan

  abbrev C : ℕ
  C = cycle_rows plan

  -- the row after a cycle row is one
  stays : (row : ℕ) → P ≤ row → row < rows plan → P ≤ after P C row
  unfolding rows last
  stays row h l =
      by_cases (dec_lt (suc row) (P + C)) (λ q. omega (arith, after_other P C row q))
      (λ q. let e : row ≡ P + C - 1 = omega arith in let next : after P C row ≡ P = ap (after P C) e ∙ after_last P C in omega arith)

  -- U that comes out true over some rows has found b on one of them,
  until_found : (a b k row : ℕ) → P ≤ row → row < rows plan → T (following P C mark (Two Until a b) k row) → Named plan (mark b)
  unfolding following
  until_found a b zero row h l t = absurd t
  until_found a b (suc k) row h l t =
      let rest = following P C mark (Two Until a b) k (after P C row) in
      let on = until_found a b k (after P C row) (stays row h l) (after_is_row plan h_c row l) in
      ⊎_elim (λ y. (row, h, l, y)) (λ y. on ((and_iff (mark a row) rest Iff.rfl Iff.rfl).0 y).1)
      ((or_iff (mark b row) (mark a row && rest) Iff.rfl Iff.rfl).0 t)

  -- and R that comes out false has missed it.
  release_missed : (a b k row : ℕ) → P ≤ row → row < rows plan → T (not (following P C mark (Two Release a b) k row)) → Named plan (λ w. not (mark b w))
  unfolding following
  release_missed a b zero row h l t = absurd t
  release_missed a b (suc k) row h l t =
      let rest = following P C mark (Two Release a b) k (after P C row) in
      let on = release_missed a b k (after P C row) (stays row h l) (after_is_row plan h_c row l) in
      ⊎_elim (λ y. on (later (mark b row) (mark a row) rest y t)) (λ n. (row, h, l, n)) (T-dec (mark b row))
    where
      later : (x y z : Bool) → T x → T (not (x && (y || z))) → T (not z)
      later true true z h t = absurd t
      later true false z h t = t
      later false y z h t = absurd h

  -- a number in order as a witness
  abbrev in_order : View → ℕ → ℕ → Bool
  in_order p i w = witness_in_order P C mark p i w

  -- No cycle row serves, though one has to: that can't be.
  none_named : (f : ℕ → Bool) → FalseFrom (names P C f) P (P + C) → Named plan f → ⊥
  unfolding rows
  none_named f lacks s = subst T (lacks s.0 s.1 s.2) (is_named plan s.0 f s.1 s.2 s.3)

  -- Where no cycle row serves, no witness is asked for.
  two_none : (o : Binary) (a b i : ℕ) → Labelled plan mark (view.Operator (Two o a b)) i
      → FalseFrom (λ w. witness_two P C o (mark i (last_row plan)) (mark b) w) P (P + C)
      → T (witness_two P C o (mark i (last_row plan)) (mark b) no_witness)
  unfolding witness_two label_of operator_label label_by
  two_none And a b i h lacks = eqb_refl no_witness
  two_none Or a b i h lacks = eqb_refl no_witness
  two_none Since a b i h lacks = eqb_refl no_witness
  two_none Trigger a b i h lacks = eqb_refl no_witness
  two_none Until a b i h lacks = go (mark i (last_row plan)) (h (last_row plan) (last_is_row plan h_c)) lacks
    where
      go : (x : Bool) → x ≡ following P C mark (Two Until a b) (P + C - last_row plan + C) (last_row plan)
          → FalseFrom (λ w. cond x (names P C (mark b) w) (eqb w no_witness)) P (P + C) → T (cond x (names P C (mark b) no_witness) (eqb no_witness no_witness))
      go true e lacks =
          absurd (none_named (mark b) lacks (until_found a b (P + C - last_row plan + C) (last_row plan) (start_to_last plan h_c) (last_is_row plan h_c) (subst T e tt)))
      go false e lacks = eqb_refl no_witness
  two_none Release a b i h lacks = go (mark i (last_row plan)) (h (last_row plan) (last_is_row plan h_c)) lacks
    where
      go : (x : Bool) → x ≡ following P C mark (Two Release a b) (P + C - last_row plan + C) (last_row plan)
          → FalseFrom (λ w. cond x (eqb w no_witness) (names P C (λ row. not (mark b row)) w)) P (P + C)
          → T (cond x (eqb no_witness no_witness) (names P C (λ row. not (mark b row)) no_witness))
      go true e lacks = eqb_refl no_witness
      go false e lacks =
          absurd (none_named (λ row. not (mark b row)) lacks
          (release_missed a b (P + C - last_row plan + C) (last_row plan) (start_to_last plan h_c) (last_is_row plan h_c) (subst (λ (x : Bool). T (not x)) e tt)))

  none_serves : (p : View) (i : ℕ) → Labelled plan mark p i → FalseFrom (in_order p i) P (P + C) → T (in_order p i no_witness)
  unfolding witness_in_order witness_of_operator
  none_serves (view.Atom x) i h lacks = eqb_refl no_witness
  none_serves (view.Operator (One o a)) i h lacks = eqb_refl no_witness
  none_serves (view.Operator (Two o a b)) i h lacks = two_none o a b i h lacks

  -- The lowest witness is in order.
  pub lowest_in_order : (p : View) (i : ℕ) → Labelled plan mark p i → T (in_order p i (lowest_witness plan mark p i))
  unfolding lowest_witness or_none
  lowest_in_order p i h = go (lowest_from (in_order p i) P C) refl
    where
      go : (o : Option ℕ) → lowest_from (in_order p i) P C ≡ o → T (in_order p i (or_none o))
      go none e = none_serves p i h ((from_none (in_order p i) P C).0 e)
      go (some w) e = (T_true (in_order p i w)).1 ((from_some (in_order p i) P C w).0 e).2

  -- What is in order is a cycle row or 65535,
  serves_where : (p : View) (i u : ℕ) → T (in_order p i u) → ((P ≤ u) × (u < P + C)) ⊎ (u ≡ no_witness)
  unfolding witness_in_order witness_of_operator witness_two names is_cycle_row
  serves_where (view.Atom x) i u t = inr (eqb→eq u no_witness t)
  serves_where (view.Operator (One o a)) i u t = inr (eqb→eq u no_witness t)
  serves_where (view.Operator (Two o a b)) i u t = two o (mark i (last_row plan)) t
    where
      in_cycle : (f : ℕ → Bool) → T (is_cycle_row P C u && f u) → ((P ≤ u) × (u < P + C)) ⊎ (u ≡ no_witness)
      in_cycle f h =
          let q = (and_iff (leb P u) (ltb u (P + C)) Iff.rfl Iff.rfl).0 ((and_iff (leb P u && ltb u (P + C)) (f u) Iff.rfl Iff.rfl).0 h).0 in
          inl (leb→le P u q.0, ltb→lt u (P + C) q.1)

      two : (o : Binary) (x : Bool) → T (witness_two P C o x (mark b) u) → ((P ≤ u) × (u < P + C)) ⊎ (u ≡ no_witness)
      two And x t = inr (eqb→eq u no_witness t)
      two Or x t = inr (eqb→eq u no_witness t)
      two Since x t = inr (eqb→eq u no_witness t)
      two Trigger x t = inr (eqb→eq u no_witness t)
      two Until true t = in_cycle (mark b) t
      two Until false t = inr (eqb→eq u no_witness t)
      two Release true t = inr (eqb→eq u no_witness t)
      two Release false t = in_cycle (λ row. not (mark b row)) t

  -- and none is lower than the lowest.
  pub lowest_least : rows plan ≤ 256 → (p : View) (i u : ℕ) → T (in_order p i u) → lowest_witness plan mark p i ≤ u
  unfolding lowest_witness or_none rows
  lowest_least few p i u t = go (lowest_from (in_order p i) P C) refl (serves_where p i u t)
    where
      go : (o : Option ℕ) → lowest_from (in_order p i) P C ≡ o → ((P ≤ u) × (u < P + C)) ⊎ (u ≡ no_witness) → or_none o ≤ u
      go none e (inl q) = absurd (subst T ((from_none (in_order p i) P C).0 e u q.0 q.1) t)
      go none e (inr q) = omega arith
      go (some w) e (inl q) =
          let found = (from_some (in_order p i) P C w).0 e in
          by_cases (dec_lt u w) (λ l. absurd (subst T (found.3 u q.0 l) t)) (λ l. omega arith)
      go (some w) e (inr q) = let high = ((from_some (in_order p i) P C w).0 e).1 in omega arith

  -- Two bytes hold it.
  pub lowest_small : rows plan ≤ 256 → (p : View) (i : ℕ) → lowest_witness plan mark p i < 65536
  unfolding lowest_witness or_none rows
  lowest_small few p i = go (lowest_from (in_order p i) P C) refl
    where
      go : (o : Option ℕ) → lowest_from (in_order p i) P C ≡ o → or_none o < 65536
      go none e = omega arith
      go (some w) e = let high = ((from_some (in_order p i) P C w).0 e).1 in omega arith
