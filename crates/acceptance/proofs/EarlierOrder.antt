-- What moved when 10 came before 9 within one part. Acceptance did not: the same tables are accepted with the same verdicts. An answer
-- moved from 9 to 10, for the same part, exactly where the lowest part at fault does not close and has a wrong mark. The earlier order
-- is defined here, for these laws alone; its closing is by the truth too, which is closing by the marks where 9 refuses nothing
-- (ByMarks of crate marks). Assumes nothing.
use Rattle.std.specs.Prelude.{Result, Ok, Err}
use Prim.Native.Nat.{ℕ, ◌<◌}
use native.Mathlib.Omega.{arith}
use mathlib.Core.Path.{◌≡◌, refl, sym, ap, ◌∙◌}
use mathlib.Core.Bool.{Bool}
use mathlib.Core.List.{List}
use mathlib.Core.Logic.{◌↔◌, ◌⊎◌, inl, inr, ⊎_elim}
use Rattle.refusal.specs.Outcome.{Outcome, unrefused}
use Rattle.refusal.specs.declared.Refusal.{Refusal}
use Rattle.refusal.specs.declared.Refusal.TheVariants.{Equation, Closing}
use Rattle.refusal.specs.First.{◌or_else◌, in_turn}
use Rattle.refusal.proofs.First.{or_else_clear, in_turn_clear, in_turn_refused, in_turn_first}
use Rattle.rule.specs.Layout.{part_count}
use Rattle.rule.specs.Take.{views_of}
use Rattle.plan.specs.Layout.{rows}
use Rattle.inputs.specs.Outcome.{inputs_outcome}
use Rattle.inputs.proofs.Ways.{both_clear}
use Rattle.table.specs.Layout.{table_outcome}
use Rattle.marks.specs.Parts.{part_outcome}
use Rattle.marks.specs.Meaning.{PartSettled, MarkTrue, PartMarksTrue}
use Rattle.marks.specs.RefusalMeaning.{FirstFault}
use Rattle.acceptance.specs.Check.{mark_of, witness_at, parts_outcome, check_outcome, answered, check_of}
use Rattle.acceptance.specs.Promise.{Cleared, ClosingMeans}
use Rattle.acceptance.proofs.ClosingAnswer.{ten, nine, eleven, ten_says, ten_clear, nine_says, nine_clear, past, closing_first, right_passed}

-- ---- items gone through in order, of each of which three tests are made, the first two in either order

module _ (ten nine eleven : ℕ → Outcome) where
  abbrev ten_first : ℕ → Outcome
  ten_first i = ten i or_else nine i or_else eleven i

  abbrev nine_first : ℕ → Outcome
  nine_first i = nine i or_else ten i or_else eleven i

  -- What one order clears the other does.
  clear_too : (i : ℕ) → ten_first i ≡ unrefused → nine_first i ≡ unrefused
  clear_too i e =
      let a = (or_else_clear (ten i) (nine i or_else eleven i)).0 e in
      let b = (or_else_clear (nine i) (eleven i)).0 a.1 in
      (or_else_clear (nine i) (ten i or_else eleven i)).1 (b.0, (or_else_clear (ten i) (eleven i)).1 (a.0, b.1))

  -- What one refuses the other refuses with the same answer, but where both tests refuse.
  same_or_both : (i : ℕ) (q : Refusal) → ten_first i ≡ Err q → (nine_first i ≡ Err q) ⊎ ((r : Refusal) × (nine i ≡ Err r) × (ten i ≡ Err q))
  unfolding ◌or_else◌
  same_or_both i q = go (ten i) (nine i)
    where
      go : (a b : Outcome) → (a or_else b or_else eleven i) ≡ Err q
          → ((b or_else a or_else eleven i) ≡ Err q) ⊎ ((r : Refusal) × (b ≡ Err r) × (a ≡ Err q))
      go (Ok _) b e = inl e
      go (Err t) (Ok _) e = inl e
      go (Err t) (Err r) e = inr (r, refl, e)

  -- All items: the same answer, or one is the lowest that is refused, by both tests.
  swapped : (n : ℕ) → (in_turn ten_first n ≡ in_turn nine_first n)
      ⊎ ((i : ℕ) × (i < n) × ((j : ℕ) → j < i → ten_first j ≡ unrefused) × (r : Refusal) × (q : Refusal) × (nine i ≡ Err r) × (ten i ≡ Err q))
  swapped n = go (in_turn ten_first n) refl
    where
      go : (o : Outcome) → in_turn ten_first n ≡ o → (in_turn ten_first n ≡ in_turn nine_first n)
          ⊎ ((i : ℕ) × (i < n) × ((j : ℕ) → j < i → ten_first j ≡ unrefused) × (r : Refusal) × (q : Refusal) × (nine i ≡ Err r) × (ten i ≡ Err q))
      go (Ok _) e = inl (e ∙ sym ((in_turn_clear nine_first n).1 (λ i l. clear_too i ((in_turn_clear ten_first n).0 e i l))))
      go (Err q) e =
          let p = in_turn_refused ten_first n q e in
          ⊎_elim
          (λ same. inl (e ∙ sym (in_turn_first nine_first n p.0 p.1 (λ j h. clear_too j (p.2 j h)) q same)))
          (λ both. inr (p.0, p.1, p.2, both.0, q, both.1, both.2))
          (same_or_both p.0 q p.3)

-- ---- the check

module _ (rule plan table : List ℕ) where
  -- 9, 10 and 11 of a part, in that order
  abbrev earlier_part : ℕ → Outcome
  earlier_part i = nine rule plan table i or_else ten rule plan table i or_else eleven rule plan table i

  -- The check with this order within one part.
  unfoldable pub earlier_outcome : Outcome
  earlier_outcome =
      inputs_outcome rule plan
      or_else table_outcome (part_count rule) (rows plan) table
      or_else in_turn earlier_part (part_count rule)

  unfoldable pub earlier_check : Result Bool Refusal
  earlier_check = answered rule plan table earlier_outcome

  -- Part i, of which the earlier order gave 9 with a row, and this one gives 10.
  pub record Moved (i row : ℕ) : Type 0 where
    pub earlier : earlier_check ≡ Err (Equation i row)
    -- its mark on that row is wrong;
    pub row_there : row < rows plan
    pub false_mark : ¬ MarkTrue (views_of rule) plan i (mark_of rule plan table) row
    -- it is the lowest part at fault, every lower one being right, and does not close: its published truth is not the same on all passes
    -- of the cycle row that 10 names
    pub later : (q : ℕ) × (check_of rule plan table ≡ Err (Closing i q)) × ClosingMeans rule plan table i q

  -- 1 to 8 refuse nothing, and neither do 9 to 11 of the parts below i, which is one of them.
  module _ (clear : inputs_outcome rule plan ≡ unrefused) (fitting : table_outcome (part_count rule) (rows plan) table ≡ unrefused) (i : ℕ) (l : i < part_count rule)
      (lower : (j : ℕ) → j < i → part_outcome plan (mark_of rule plan table) (views_of rule j) j (witness_at rule plan table j) ≡ unrefused) where
    -- Refused by 9 and by 10, it has moved.
    moved : (r q : Refusal) → nine rule plan table i ≡ Err r → ten rule plan table i ≡ Err q → (row : ℕ) × Moved i row
    unfolding part_outcome earlier_check earlier_outcome ◌or_else◌
    moved r q d e =
        let says = nine_says rule plan table clear fitting i l lower r q d e in
        let tells = ten_says rule plan table clear fitting i l lower q e in
        let before = in_turn_first earlier_part (part_count rule) i l
        (λ j h. clear_too (ten rule plan table) (nine rule plan table) (eleven rule plan table) j (lower j h)) r
        (ap (λ x. x or_else ten rule plan table i or_else eleven rule plan table i) d) in (
          says.0,
          record {
            earlier = past rule plan table clear fitting i l lower _ before ∙ ap Err (sym says.1);
            row_there = says.2;
            false_mark = says.3;
            later = (tells.0, closing_first rule plan table clear fitting i l lower q e ∙ ap Err (sym tells.1), tells.2);
          },
        )

    -- Refused by 10, with a wrong mark, it is refused by 9 too.
    moved_wrong : (q : Refusal) → ten rule plan table i ≡ Err q → ¬ PartMarksTrue (views_of rule) plan i (mark_of rule plan table) → (row : ℕ) × Moved i row
    moved_wrong q e wrong = go (nine rule plan table i) refl
      where
        go : (o : Outcome) → nine rule plan table i ≡ o → (row : ℕ) × Moved i row
        go (Ok _) d = absurd (wrong (nine_clear rule plan table clear fitting i l lower d q e))
        go (Err r) d = moved r q d e

    -- Not settled, with a wrong mark, it is refused by 10.
    moved_open : ¬ PartSettled (views_of rule) plan i → ¬ PartMarksTrue (views_of rule) plan i (mark_of rule plan table) → (row : ℕ) × Moved i row
    moved_open unsettled wrong = go (ten rule plan table i) refl
      where
        go : (o : Outcome) → ten rule plan table i ≡ o → (row : ℕ) × Moved i row
        go (Ok _) e = absurd (unsettled ((ten_clear rule plan table clear fitting i l lower).0 e))
        go (Err q) e = moved_wrong q e wrong

  -- WHAT MOVES: both orders give the same answer, or the earlier gives 9 and this one 10 for the same part, the lowest at fault, which
  -- does not close and has a wrong mark.
  pub moves : (check_of rule plan table ≡ earlier_check) ⊎ ((i : ℕ) × (row : ℕ) × Moved i row)
  unfolding check_of check_outcome parts_outcome part_outcome earlier_check earlier_outcome ◌or_else◌
  moves = go (inputs_outcome rule plan) refl (table_outcome (part_count rule) (rows plan) table) refl
    where
      go : (o : Outcome) → inputs_outcome rule plan ≡ o → (t : Outcome) → table_outcome (part_count rule) (rows plan) table ≡ t
          → (check_of rule plan table ≡ earlier_check) ⊎ ((i : ℕ) × (row : ℕ) × Moved i row)
      go (Err r) e t d = inl (simp e)
      go (Ok _) e (Err r) d = inl (simp (e, d))
      go (Ok _) e (Ok _) d =
          ⊎_elim
          (λ same. inl (ap (λ x. answered rule plan table (inputs_outcome rule plan or_else table_outcome (part_count rule) (rows plan) table or_else x)) same))
          (λ m. let own = moved e d m.0 m.1 m.2 m.3 m.4 m.5 m.6 in inr (m.0, own.0, own.1))
          (swapped (ten rule plan table) (nine rule plan table) (eleven rule plan table) (part_count rule))

  -- AND WHERE: every table that clears 1 to 8 and whose lowest part at fault does not close and has a wrong mark has moved.
  pub moved_where : Cleared rule plan table → (i : ℕ) → FirstFault (views_of rule) (part_count rule) plan (mark_of rule plan table) (witness_at rule plan table) i
      → ¬ PartSettled (views_of rule) plan i → ¬ PartMarksTrue (views_of rule) plan i (mark_of rule plan table) → (row : ℕ) × Moved i row
  moved_where c i fault =
      moved_open (both_clear rule plan c.sheet c.plan_clear) c.table_clear i fault.present (right_passed rule plan table c i fault)

  -- ACCEPTANCE DOES NOT MOVE: the same tables are accepted, with the same verdicts.
  pub acceptance_stays : (v : Bool) → (check_of rule plan table ≡ Ok v) ↔ (earlier_check ≡ Ok v)
  acceptance_stays v = go moves
    where
      not_both : {r : Refusal} → Err r ≡ Ok v → ⊥
      not_both e = let z : ◌≡◌ {A = ℕ} 0 1 = cc in omega arith

      go : (check_of rule plan table ≡ earlier_check) ⊎ ((i : ℕ) × (row : ℕ) × Moved i row) → (check_of rule plan table ≡ Ok v) ↔ (earlier_check ≡ Ok v)
      go (inl same) = (λ e. sym same ∙ e, λ e. same ∙ e)
      go (inr m) = (λ e. absurd (not_both (sym m.2.later.1 ∙ e)), λ e. absurd (not_both (sym m.2.earlier ∙ e)))
