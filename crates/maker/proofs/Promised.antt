-- The maker's promise, from its definitions: what is made is accepted, and 14 is answered exactly where nothing is. Assumes nothing.
use Rattle.std.specs.Prelude.{Result, Ok, Err}
use Prim.Native.Nat.{ℕ, ◌+◌, ◌*◌, ◌-◌, ◌≤◌, ◌<◌}
use native.Mathlib.Omega.{arith}
use mathlib.Core.Path.{◌≡◌, refl, sym, ap, ◌∙◌, subst, subst⁻¹}
use mathlib.Core.List.{List}
use mathlib.Core.Bool.{Bool, true}
use mathlib.Core.Logic.{◌↔◌}
use lib.ListN.{length}
use borrow.Author.Tests.{eq-eqb}
use Rattle.cltlb.specs.Fits.{view_fits}
use Rattle.refusal.specs.Outcome.{Outcome, unrefused}
use Rattle.refusal.specs.declared.Refusal.{Refusal}
use Rattle.refusal.specs.declared.Refusal.TheVariants.{Closing, BufferLength, NoTable}
use Rattle.refusal.specs.Report.{report_of}
use Rattle.refusal.specs.First.{◌or_else◌}
use Rattle.refusal.proofs.First.{clear_refused, or_else_clear, unless_clear, in_turn_clear, in_turn_refused, in_turn_first}
use Rattle.refusal.proofs.RefusesOnly.{Small, Within, RefusesOnly, refused_only, or_else_only, unless_only, in_turn_only, or_else_second, within_small, within_wider}
use Rattle.rule.specs.Layout.{part_count, channel_count}
use Rattle.rule.specs.Take.{views_of}
use Rattle.rule.proofs.Cleared.{cleared_counts, cleared_fits}
use Rattle.plan.specs.Layout.{cycle_rows, rows}
use Rattle.plan.proofs.Outcomes.{cleared}
use Rattle.inputs.specs.Outcome.{inputs_outcome}
use Rattle.inputs.proofs.Ways.{clear_both, both_clear, inputs_within}
use Rattle.marks.specs.Parts.{closing_outcome}
use Rattle.marks.specs.RefusalMeaning as refusal
use Rattle.marks.proofs.MarkNames.{closing_small}
use Rattle.labelling.specs.Labels.{made_mark, made_witness, made_table}
use Rattle.labelling.proofs.Made.{Closed, open_says, open_refuted}
use Rattle.labelling.proofs.MadeTable.{table_same, table_clear, table_accepted, table_lowest}
use Rattle.acceptance.specs.Check.{mark_of, witness_at, parts_outcome, check_outcome, check_of}
use Rattle.acceptance.specs.Promise.{Cleared}
use Rattle.acceptance.proofs.Promised.{accepted_clear, clear_accepted, all_clear, clear_all, check_promise}
use Rattle.maker.specs.Make.{as_no_table, open_outcome, closings_outcome, lent_outcome, make_outcome, answered, make_of, left_by, bytes_after}
use Rattle.maker.specs.Promise.{Lent, NoneAccepted, LowestWitness, OpenMeans, MakePromise}

-- ---- 14 as 10

pub no_table_clear : (o : Outcome) → (as_no_table o ≡ unrefused) ↔ (o ≡ unrefused)
unfolding as_no_table
no_table_clear (Ok _) = (λ _. refl, λ _. refl)
no_table_clear (Err r) = (λ e. absurd (clear_refused e), λ e. absurd (clear_refused e))

no_table_refused : (o : Outcome) (q : Refusal) → as_no_table o ≡ Err q → (r : Refusal) × (o ≡ Err r) × (NoTable (report_of r).part (report_of r).row ≡ q)
unfolding as_no_table
no_table_refused (Ok _) q e = absurd (clear_refused (sym e))
no_table_refused (Err r) q e = (r, refl, cc)

-- equal refusals name equal parts and rows
same_names : {i row j s : ℕ} → NoTable i row ≡ NoTable j s → (i ≡ j) × (row ≡ s)
same_names e = (cc, cc)

-- ---- a rule and a plan that clear 1 to 6

module _ (rule plan : List ℕ) (e : inputs_outcome rule plan ≡ unrefused) where
  pub some_cycle : 1 ≤ cycle_rows plan
  some_cycle = (cleared (channel_count rule) plan (clear_both rule plan e).1).0.a_cycle

  few_rows : rows plan ≤ 256
  unfolding rows
  few_rows = (cleared (channel_count rule) plan (clear_both rule plan e).1).0.few_rows

  few_parts : part_count rule ≤ 64
  few_parts = (cleared_counts rule (clear_both rule plan e).0).1

  pub fits : (i : ℕ) → i < part_count rule → view_fits (channel_count rule) i (views_of rule i) ≡ true
  fits = cleared_fits rule (clear_both rule plan e).0

  -- part i closes, by the marks made
  abbrev pub Closes : ℕ → Type 0
  Closes = Closed plan some_cycle (views_of rule) (channel_count rule) (part_count rule) fits

  abbrev table : List ℕ
  table = made_table (views_of rule) plan (part_count rule)

  pub all_closed : closings_outcome rule plan ≡ unrefused → (i : ℕ) → i < part_count rule → Closes i
  unfolding closings_outcome open_outcome
  all_closed c i l =
      (no_table_clear (closing_outcome plan (made_mark (views_of rule) plan) (views_of rule i) i)).0 ((in_turn_clear (open_outcome rule plan) (part_count rule)).0 c i l)

  -- ---- made

  passed : closings_outcome rule plan ≡ unrefused → check_outcome rule plan table ≡ unrefused
  unfolding parts_outcome mark_of witness_at
  passed c =
      clear_all rule plan table
      (record {
        sheet = (clear_both rule plan e).0;
        plan_clear = (clear_both rule plan e).1;
        table_clear = table_clear plan some_cycle few_rows (views_of rule) (channel_count rule) (part_count rule) fits few_parts;
      })
      (table_accepted plan some_cycle few_rows (views_of rule) (channel_count rule) (part_count rule) fits (all_closed c))

  -- The table is accepted, with the verdict that is answered.
  accepted_table : closings_outcome rule plan ≡ unrefused → check_of rule plan table ≡ Ok (made_mark (views_of rule) plan (part_count rule - 1) 0)
  unfolding mark_of rows
  accepted_table c =
      clear_accepted rule plan table (passed c)
      ∙ ap (λ (v : Bool). Ok v)
      (sym (table_same plan some_cycle few_rows (views_of rule) (channel_count rule) (part_count rule) fits (part_count rule - 1)
      (let h = (cleared_counts rule (clear_both rule plan e).0).0 in omega arith) 0 (let h = some_cycle in omega arith)))

  -- Its witnesses are the lowest.
  made_lowest : (i : ℕ) → i < part_count rule → LowestWitness rule plan (made_table (views_of rule) plan (part_count rule)) i
  unfolding LowestWitness mark_of witness_at
  made_lowest i l = table_lowest plan some_cycle few_rows (views_of rule) (channel_count rule) (part_count rule) fits i l

  -- ---- not made

  -- The part that does not close, those before it closing.
  first_open : (q : Refusal) → closings_outcome rule plan ≡ Err q
      → (i : ℕ) × (i < part_count rule) × ((a : ℕ) → a < i → Closes a) × (r : Refusal)
      × (closing_outcome plan (made_mark (views_of rule) plan) (views_of rule i) i ≡ Err r) × (NoTable (report_of r).part (report_of r).row ≡ q)
  unfolding closings_outcome open_outcome
  first_open q c =
      let p = in_turn_refused (open_outcome rule plan) (part_count rule) q c in
      let o = no_table_refused (closing_outcome plan (made_mark (views_of rule) plan) (views_of rule p.0) p.0) q p.3 in
      (p.0, p.1, (λ a l. (no_table_clear (closing_outcome plan (made_mark (views_of rule) plan) (views_of rule a) a)).0 (p.2 a l)), o.0, o.1, o.2)

  -- No table is accepted then.
  pub none_accepted : (q : Refusal) → closings_outcome rule plan ≡ Err q → NoneAccepted rule plan
  unfolding NoneAccepted check_of parts_outcome
  none_accepted q c other v accepted =
      let p = first_open q c in
      let clear = (all_clear rule plan other (accepted_clear rule plan other (check_outcome rule plan other) v accepted).0).1 in
      open_refuted plan some_cycle (views_of rule) (channel_count rule) (part_count rule) fits p.0 p.1 p.2
      (λ closed. clear_refused (sym p.4 ∙ closed)) (mark_of rule plan other) (witness_at rule plan other) clear

  -- Part i, of which 14 is said, does not close, as 10 says.
  open_means : (i row : ℕ) → closings_outcome rule plan ≡ Err (NoTable i row)
      → (closing_outcome plan (made_mark (views_of rule) plan) (views_of rule i) i ≡ Err (Closing i row)) × OpenMeans rule plan i row
  unfolding OpenMeans
  open_means i row c =
      let p = first_open (NoTable i row) c in
      let s = open_says plan some_cycle (views_of rule) (channel_count rule) (part_count rule) fits p.0 p.1 p.2 p.3 p.4 in
      let same = same_names (ap (λ (r : Refusal). NoTable (report_of r).part (report_of r).row) s.1 ∙ p.5) in
      subst (λ (k : ℕ). Said k row) same.0 (subst (Said p.0) same.1 (p.4 ∙ ap (λ (r : Refusal). Err r) (sym s.1), s.2))
    where
      Said : ℕ → ℕ → Type 0
      Said k q =
          (closing_outcome plan (made_mark (views_of rule) plan) (views_of rule k) k ≡ Err (Closing k q))
          × refusal.ClosingMeans (views_of rule) (part_count rule) plan (made_mark (views_of rule) plan) (made_witness (views_of rule) plan) k q

-- ---- the numbers of the refusals, and what two bytes hold

module _ (rule plan before : List ℕ) where
  lent_within : RefusesOnly (Within 1 13) (lent_outcome rule plan before)
  unfolding lent_outcome
  lent_within =
      or_else_only (Within 1 13) (inputs_outcome rule plan) _
      (within_wider 1 6 1 13 (omega arith) (omega arith) (inputs_outcome rule plan) (inputs_within rule plan))
      (λ _. unless_only (Within 1 13) _ BufferLength (omega arith))

  -- A refusal 14 is that of a part, and what comes before is cleared.
  no_table_last : (i row : ℕ) → make_outcome rule plan before ≡ Err (NoTable i row)
      → (lent_outcome rule plan before ≡ unrefused) × (closings_outcome rule plan ≡ Err (NoTable i row))
  unfolding make_outcome
  no_table_last i row e =
      or_else_second (Within 1 13) (lent_outcome rule plan before) (closings_outcome rule plan) (NoTable i row) lent_within
      (λ w. let l = w.1 in omega arith) e

  small_as : (o : Outcome) → RefusesOnly Small o → RefusesOnly Small (as_no_table o)
  unfolding RefusesOnly as_no_table
  small_as (Ok _) h = tt
  small_as (Err r) h = h

  inputs_clear : lent_outcome rule plan before ≡ unrefused → inputs_outcome rule plan ≡ unrefused
  unfolding lent_outcome
  inputs_clear e = ((or_else_clear (inputs_outcome rule plan) _).0 e).0

  make_small : RefusesOnly Small (make_outcome rule plan before)
  unfolding make_outcome closings_outcome open_outcome
  make_small =
      or_else_only Small (lent_outcome rule plan before) (closings_outcome rule plan) (within_small 1 13 (lent_outcome rule plan before) lent_within)
      (λ e. let c = inputs_clear e in
      in_turn_only Small (open_outcome rule plan) (part_count rule) (λ i l.
      small_as (closing_outcome plan (made_mark (views_of rule) plan) (views_of rule i) i)
      (closing_small plan (few_rows rule plan c) (part_count rule) (few_parts rule plan c) (made_mark (views_of rule) plan) i l (views_of rule i))))

  -- the answers, by their outcomes
  refused_as : (o : Outcome) (r : Refusal) → answered rule plan before o ≡ Err r → o ≡ Err r
  unfolding answered
  refused_as (Ok _) r e = absurd (let z : ◌≡◌ {A = ℕ} 0 1 = cc in omega arith)
  refused_as (Err q) r e = cc

  made_as : (o : Outcome) (v : Bool) → answered rule plan before o ≡ Ok v → (o ≡ unrefused) × (made_mark (views_of rule) plan (part_count rule - 1) 0 ≡ v)
  unfolding answered
  made_as (Ok _) v e = (refl, cc)
  made_as (Err q) v e = absurd (let z : ◌≡◌ {A = ℕ} 0 1 = cc in omega arith)

  -- Two bytes hold the part and the row that a refusal names.
  pub make_names : {answer : Result Bool Refusal} → answer ≡ make_of rule plan before → (r : Refusal) → answer ≡ Err r → Small r
  unfolding make_of
  make_names e r f = refused_only Small (make_outcome rule plan before) make_small r (refused_as (make_outcome rule plan before) r (sym e ∙ f))

  -- ---- the whole promise

  lent_clear : Lent rule plan before → lent_outcome rule plan before ≡ unrefused
  unfolding lent_outcome
  lent_clear h =
      (or_else_clear (inputs_outcome rule plan) _).1 (
        both_clear rule plan h.sheet h.plan_clear,
        (unless_clear _ BufferLength).1 (eq-eqb (length before) (4 + part_count rule * rows plan + 2 * part_count rule) h.buffer),
      )

  -- made: both groups of tests are cleared, and the bytes left are the table's
  made_clear : (v : Bool) → make_of rule plan before ≡ Ok v
      → (inputs_outcome rule plan ≡ unrefused) × (closings_outcome rule plan ≡ unrefused) × (made_mark (views_of rule) plan (part_count rule - 1) 0 ≡ v)
      × (bytes_after rule plan before ≡ made_table (views_of rule) plan (part_count rule))
  unfolding make_of make_outcome bytes_after left_by
  made_clear v e =
      let m = made_as (lent_outcome rule plan before or_else closings_outcome rule plan) v e in
      let both = (or_else_clear (lent_outcome rule plan before) (closings_outcome rule plan)).0 m.0 in
      (inputs_clear both.0, both.1, m.1, simp (both.0, both.1))

  -- not made: the refusal of the parts is the answer
  not_made : {q : Refusal} → lent_outcome rule plan before ≡ unrefused → closings_outcome rule plan ≡ Err q → make_of rule plan before ≡ Err q
  unfolding make_of make_outcome answered ◌or_else◌
  not_made d c = simp (d, c)

  -- 14 OF A PART, where every lower one closes, is the answer exactly where the part does not close.
  pub open_answer : Lent rule plan before → (i row : ℕ) → i < part_count rule
      → ((a : ℕ) → a < i → closing_outcome plan (made_mark (views_of rule) plan) (views_of rule a) a ≡ unrefused)
      → (make_of rule plan before ≡ Err (NoTable i row)) ↔ (closing_outcome plan (made_mark (views_of rule) plan) (views_of rule i) i ≡ Err (Closing i row))
  unfolding make_of closings_outcome open_outcome as_no_table
  open_answer h i row l lower = (
    λ e. (open_means rule plan (inputs_clear (lent_clear h)) i row (no_table_last i row (refused_as (make_outcome rule plan before) (NoTable i row) e)).1).0,
    λ e. not_made (lent_clear h) (in_turn_first (open_outcome rule plan) (part_count rule) i l (λ a q. ap as_no_table (lower a q)) (NoTable i row) (ap as_no_table e)),
  )

  -- THE MAKER KEEPS ITS PROMISE, whatever the bytes.
  pub make_promise : {after : List ℕ} {answer : Result Bool Refusal} → answer ≡ make_of rule plan before → after ≡ bytes_after rule plan before
      → MakePromise rule plan before after answer
  unfolding make_of check_of NoneAccepted
  make_promise {after} {answer} e f = record {
    is_make = e;
    bytes = f;
    accepted = accepts;
    right = λ v q. let c = clears v q in ((check_promise rule plan after refl).accepts c.1).0 (v, accepts v q);
    verdict = λ v q. (check_promise rule plan after refl).verdict v (accepts v q);
    lowest = λ v q i l. lowest_of v q i l;
    refuses = λ h. (
      λ p. let c = no_table_last p.0 p.1 (refused_as (make_outcome rule plan before) (NoTable p.0 p.1) (sym e ∙ p.2)) in
          none_accepted rule plan (inputs_clear c.0) (NoTable p.0 p.1) c.1,
      λ none. refused h none (closings_outcome rule plan) refl,
    );
    opened = λ i row q.
        let c = no_table_last i row (refused_as (make_outcome rule plan before) (NoTable i row) (sym e ∙ q)) in
        (open_means rule plan (inputs_clear c.0) i row c.1).1;
  }
    where
      accepts : (v : Bool) → answer ≡ Ok v → check_of rule plan after ≡ Ok v
      accepts v q =
          let c = made_clear v (sym e ∙ q) in
          subst⁻¹ (λ (x : List ℕ). check_of rule plan x ≡ Ok v) (f ∙ c.3)
          (subst (λ (x : Bool). check_of rule plan (made_table (views_of rule) plan (part_count rule)) ≡ Ok x) c.2 (accepted_table rule plan c.0 c.1))

      clears : (v : Bool) → answer ≡ Ok v → (check_outcome rule plan after ≡ unrefused) × Cleared rule plan after
      clears v q =
          let k = (accepted_clear rule plan after (check_outcome rule plan after) v (accepts v q)).0 in
          (k, (all_clear rule plan after k).0)

      lowest_of : (v : Bool) → answer ≡ Ok v → (i : ℕ) → i < part_count rule → LowestWitness rule plan after i
      lowest_of v q i l =
          let c = made_clear v (sym e ∙ q) in
          subst⁻¹ (λ (x : List ℕ). LowestWitness rule plan x i) (f ∙ c.3) (made_lowest rule plan c.0 i l)

      refused : Lent rule plan before → NoneAccepted rule plan → (o : Outcome) → closings_outcome rule plan ≡ o
          → (i row : ℕ) × (answer ≡ Err (NoTable i row))
      refused h none (Ok _) c = absurd (none (made_table (views_of rule) plan (part_count rule)) _ (accepted_table rule plan (inputs_clear (lent_clear h)) c))
      refused h none (Err q) c =
          let p = first_open rule plan (inputs_clear (lent_clear h)) q c in
          ((report_of p.3).part, (report_of p.3).row, e ∙ not_made (lent_clear h) (c ∙ ap (λ (r : Refusal). Err r) (sym p.5)))
