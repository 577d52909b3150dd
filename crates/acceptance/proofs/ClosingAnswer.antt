-- Where 10 is the answer of the check: at the lowest part at fault, exactly where that does not close, whatever its marks and those of
-- higher parts are. Assumes nothing.
use Rattle.std.specs.Prelude.{Err}
use Prim.Native.Nat.{ℕ, ◌≤◌, ◌<◌}
use native.Mathlib.Omega.{arith}
use mathlib.Core.Path.{◌≡◌, ap, subst}
use mathlib.Core.Bool.{Bool, true}
use mathlib.Core.List.{List}
use mathlib.Core.Logic.{◌↔◌, ⊎_elim}
use lib.Dec.{T}
use Rattle.cltlb.specs.Fits.{view_fits}
use Rattle.refusal.specs.Outcome.{Outcome, unrefused}
use Rattle.refusal.specs.declared.Refusal.{Refusal}
use Rattle.refusal.specs.declared.Refusal.TheVariants.{Equation, Closing, Witness}
use Rattle.refusal.specs.First.{◌or_else◌}
use Rattle.refusal.proofs.First.{or_else_refused, unless_refused_lem, in_turn_clear, in_turn_refused, in_turn_first}
use Rattle.rule.specs.Layout.{part_count, channel_count}
use Rattle.rule.specs.Take.{views_of}
use Rattle.rule.proofs.Cleared.{cleared_fits}
use Rattle.plan.specs.Layout.{start_rows, cycle_rows, rows}
use Rattle.plan.proofs.Outcomes.{cleared}
use Rattle.inputs.specs.Outcome.{inputs_outcome}
use Rattle.inputs.proofs.Ways.{clear_both}
use Rattle.table.specs.Layout.{table_outcome}
use Rattle.marks.specs.Parts.{witness_in_order, equation_outcome, closing_outcome, witness_outcome, part_outcome}
use Rattle.marks.specs.Meaning.{PartSettled, MarkTrue, PartMarksTrue, Settled, MarksTrue, WitnessesInOrder}
use Rattle.marks.specs.RefusalMeaning.{FirstFault}
use Rattle.marks.proofs.Accepted.{TrueAt, below, true_accepted}
use Rattle.marks.proofs.RefusalMeans.{equation_says, broken_open, open_marks, closing_says, closing_settled}
use Rattle.acceptance.specs.Check.{mark_of, witness_at, parts_outcome, check_outcome, answered, check_of}
use Rattle.acceptance.specs.Promise.{Cleared, ClosingMeans}
use Rattle.acceptance.proofs.CheckNames.{parts_refused, refused_outcome}

module _ (rule plan table : List ℕ) where
  abbrev mark : ℕ → ℕ → Bool
  mark = mark_of rule plan table

  abbrev witness : ℕ → ℕ
  witness = witness_at rule plan table

  -- 10, 9 and 11 of a part
  abbrev pub ten : ℕ → Outcome
  ten i = closing_outcome plan mark (views_of rule i) i

  abbrev pub nine : ℕ → Outcome
  nine i = equation_outcome plan mark (views_of rule i) i

  abbrev pub eleven : ℕ → Outcome
  eleven i = witness_outcome plan mark (views_of rule i) i (witness i)

  -- 1 to 8 refuse nothing, and neither do 9 to 11 of the parts below i, which is one of them.
  module _ (clear : inputs_outcome rule plan ≡ unrefused) (fitting : table_outcome (part_count rule) (rows plan) table ≡ unrefused) (i : ℕ) (l : i < part_count rule)
      (lower : (j : ℕ) → j < i → part_outcome plan (mark_of rule plan table) (views_of rule j) j (witness_at rule plan table j) ≡ unrefused) where
    some_cycle : 1 ≤ cycle_rows plan
    some_cycle = (cleared (channel_count rule) plan (clear_both rule plan clear).1).0.a_cycle

    fits : (i : ℕ) → i < part_count rule → view_fits (channel_count rule) i (views_of rule i) ≡ true
    fits = cleared_fits rule (clear_both rule plan clear).0

    lower_right : (a : ℕ) → a < i
        → TrueAt plan (views_of rule) (part_count rule) mark a × T (witness_in_order (start_rows plan) (cycle_rows plan) mark (views_of rule a) a (witness a))
    lower_right = below plan some_cycle (views_of rule) (channel_count rule) (part_count rule) fits mark witness i (omega arith) lower

    -- What 10 says of part i; that it says nothing exactly where the part is settled;
    pub ten_says : (q : Refusal) → ten i ≡ Err q → (row : ℕ) × (Closing i row ≡ q) × ClosingMeans rule plan table i row
    unfolding ClosingMeans
    ten_says = closing_says plan some_cycle (views_of rule) (channel_count rule) (part_count rule) fits mark witness i l lower_right

    pub ten_clear : (ten i ≡ unrefused) ↔ PartSettled (views_of rule) plan i
    ten_clear = closing_settled plan some_cycle (views_of rule) (channel_count rule) (part_count rule) fits mark witness i l lower_right

    -- and what 9 says where 10 refuses the part too, and where it alone does.
    pub nine_says : (r q : Refusal) → nine i ≡ Err r → ten i ≡ Err q
        → (row : ℕ) × (Equation i row ≡ r) × (row < rows plan) × (¬ MarkTrue (views_of rule) plan i (mark_of rule plan table) row)
    nine_says = broken_open plan some_cycle (views_of rule) (channel_count rule) (part_count rule) fits mark witness i l lower_right

    pub nine_clear : nine i ≡ unrefused → (q : Refusal) → ten i ≡ Err q → PartMarksTrue (views_of rule) plan i (mark_of rule plan table)
    nine_clear = open_marks plan some_cycle (views_of rule) (channel_count rule) (part_count rule) fits mark witness i l lower_right

    -- The answer is what the parts say,
    pub past : (x : Outcome) {r : Refusal} → x ≡ Err r
        → answered rule plan table (inputs_outcome rule plan or_else table_outcome (part_count rule) (rows plan) table or_else x) ≡ Err r
    unfolding answered ◌or_else◌
    past x e = simp (clear, fitting, e)

    -- and so what 10 says of part i.
    pub closing_first : (q : Refusal) → ten i ≡ Err q → check_of rule plan table ≡ Err q
    unfolding check_of check_outcome parts_outcome part_outcome ◌or_else◌
    closing_first q e =
        past _ (in_turn_first (λ i. ten i or_else nine i or_else eleven i) (part_count rule) i l lower q (ap (λ x. x or_else nine i or_else eleven i) e))

    -- 10 of a part is said by its own turn.
    own_closing : (k q : ℕ) → part_outcome plan mark (views_of rule i) i (witness i) ≡ Err (Closing k q) → (i ≡ k) × (ten i ≡ Err (Closing k q))
    unfolding part_outcome witness_outcome
    own_closing k q e =
        ⊎_elim
        (λ h. let same = (ten_says (Closing k q) h).1 in (cc, h))
        (λ h. absurd (⊎_elim
        (λ g. let other = (equation_says plan some_cycle (views_of rule) (channel_count rule) (part_count rule) fits mark witness i l lower_right (Closing k q) g).1 in
        let z : ◌≡◌ {A = ℕ} 0 1 = cc in omega arith)
        (λ g. let other = (unless_refused_lem _ (Witness i) (Closing k q) g.1).1 in let z : ◌≡◌ {A = ℕ} 0 1 = cc in omega arith)
        (or_else_refused (nine i) (eleven i) (Closing k q) h.1)))
        (or_else_refused (ten i) (nine i or_else eleven i) (Closing k q) e)

  -- An answer 10 is what 10 says of its part, 1 to 8 and every lower part being cleared.
  pub closing_turn : (i q : ℕ) → check_of rule plan table ≡ Err (Closing i q)
      → (inputs_outcome rule plan ≡ unrefused) × (table_outcome (part_count rule) (rows plan) table ≡ unrefused) × (i < part_count rule)
      × ((j : ℕ) → j < i → part_outcome plan (mark_of rule plan table) (views_of rule j) j (witness_at rule plan table j) ≡ unrefused)
      × (closing_outcome plan (mark_of rule plan table) (views_of rule i) i ≡ Err (Closing i q))
  unfolding check_of parts_outcome
  closing_turn i q e =
      let p = parts_refused rule plan table (Closing i q) (omega arith) (refused_outcome rule plan table (check_outcome rule plan table) (Closing i q) e) in
      let f = in_turn_refused (λ i. part_outcome plan mark (views_of rule i) i (witness i)) (part_count rule) (Closing i q) p.2 in
      let own = own_closing p.0 p.1 f.0 f.1 f.2 i q f.3 in
      let turn = subst (λ (k : ℕ). (k < part_count rule) × ((j : ℕ) → j < k → part_outcome plan mark (views_of rule j) j (witness j) ≡ unrefused)
      × (ten k ≡ Err (Closing i q))) own.0 (f.1, f.2, own.1) in
      (p.0, p.1, turn.0, turn.1, turn.2)

  -- 10 OF A PART, where every lower one is cleared, is the answer exactly where the part does not close, whatever its marks are.
  pub closing_answer : inputs_outcome rule plan ≡ unrefused → table_outcome (part_count rule) (rows plan) table ≡ unrefused → (i q : ℕ) → i < part_count rule
      → ((j : ℕ) → j < i → part_outcome plan (mark_of rule plan table) (views_of rule j) j (witness_at rule plan table j) ≡ unrefused)
      → (check_of rule plan table ≡ Err (Closing i q)) ↔ (closing_outcome plan (mark_of rule plan table) (views_of rule i) i ≡ Err (Closing i q))
  closing_answer clear fitting i q l lower = (λ e. (closing_turn i q e).4, closing_first clear fitting i l lower (Closing i q))

  -- Parts that are right are cleared.
  pub right_passed : Cleared rule plan table → (i : ℕ) → FirstFault (views_of rule) (part_count rule) plan (mark_of rule plan table) (witness_at rule plan table) i
      → (j : ℕ) → j < i → part_outcome plan (mark_of rule plan table) (views_of rule j) j (witness_at rule plan table j) ≡ unrefused
  unfolding Settled MarksTrue WitnessesInOrder
  right_passed c i fault =
      (in_turn_clear (λ a. part_outcome plan mark (views_of rule a) a (witness a)) i).0
      (true_accepted plan (cleared (channel_count rule) plan c.plan_clear).0.a_cycle (views_of rule) (channel_count rule) i
      (λ a q. cleared_fits rule c.sheet a (omega (arith, fault.present))) mark witness
      (λ a q. (fault.lower a q).settled, λ a q. (fault.lower a q).marks, λ a q. (fault.lower a q).witnessed))
