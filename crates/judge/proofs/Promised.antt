-- The definition of judge keeps its promise, whatever the bytes and numbers, and two bytes hold the part and the row that its
-- refusals name. Assumes nothing.
use Rattle.std.specs.Prelude.{Result, Ok, Err}
use Prim.Native.Nat.{ℕ, ◌<◌}
use native.Mathlib.Omega.{arith}
use mathlib.Core.Path.{◌≡◌, refl, sym, ◌∙◌, subst}
use mathlib.Core.List.{List}
use mathlib.Core.Bool.{Bool, true, ◌&&◌, false≢true, and-eq-true_iff}
use lib.Dec.{ltb}
use borrow.Author.Tests.{ltb-true}
use Rattle.cltlb.specs.Truth.{Holds}
use Rattle.cltlb.specs.Views.{is_atom}
use Rattle.cltlb.specs.Fits.{view_fits}
use Rattle.cltlb.specs.Parts.{formula_from, formula_to, formula_of}
use Rattle.cltlb.specs.declared.View.{View}
use Rattle.cltlb.specs.declared.View.TheVariants as view
use Rattle.cltlb.proofs.Fits.{atom_fits_lem}
use Rattle.refusal.specs.declared.Refusal.{Refusal}
use Rattle.refusal.specs.declared.Refusal.TheVariants.{Absent}
use Rattle.refusal.specs.Outcome.{Outcome, unrefused}
use Rattle.refusal.specs.First.{unless}
use Rattle.refusal.proofs.First.{or_else_clear, unless_clear}
use Rattle.refusal.proofs.RefusesOnly.{Small, RefusesOnly, refused_only, or_else_only, unless_only, within_small}
use Rattle.rule.specs.Layout.{part_count, channel_count}
use Rattle.rule.specs.Take.{views_of}
use Rattle.rule.proofs.Cleared.{cleared_fits}
use Rattle.plan.specs.Layout.{start_rows, cycle_rows, rows}
use Rattle.plan.specs.Run.{run_of}
use Rattle.plan.proofs.Outcomes.{cleared}
use Rattle.inputs.specs.Outcome.{inputs_outcome}
use Rattle.inputs.proofs.Ways.{clear_both, inputs_within}
use Rattle.verdict.specs.declared.Verdict.{Verdict}
use Rattle.verdict.specs.Meaning.{VerdictMeans}
use Rattle.verdict.proofs.Verdicts.{judged}
use Rattle.judge.specs.Judge.{verdict_on, judge_outcome, judged_as, judge_of, JudgePromise}

module _ (rule plan : List ℕ) (part row : ℕ) where
  -- the last test: the part and the row are there, and the part is an atom
  abbrev pub judgeable : Bool
  judgeable = ltb part (part_count rule) && (ltb row (rows plan) && is_atom (views_of rule part))

  -- what judge has not refused
  pub record Judgeable : Type 0 where
    pub inputs : inputs_outcome rule plan ≡ unrefused
    pub part_there : part < part_count rule
    pub row_there : row < rows plan
    pub atom : is_atom (views_of rule part) ≡ true

  judge_cleared : judge_outcome rule plan part row ≡ unrefused → Judgeable
  unfolding judge_outcome
  judge_cleared e =
      let a = (or_else_clear (inputs_outcome rule plan) (unless judgeable Absent)).0 e in
      let t = (and-eq-true_iff (ltb part (part_count rule)) (ltb row (rows plan) && is_atom (views_of rule part))).0 ((unless_clear judgeable Absent).0 a.1) in
      let u = (and-eq-true_iff (ltb row (rows plan)) (is_atom (views_of rule part))).0 t.1 in
      record {
        inputs = a.0;
        part_there = ltb-true part (part_count rule) t.0;
        row_there = ltb-true row (rows plan) u.0;
        atom = u.1;
      }

  verdict_of_lem : (o : Outcome) (v : Verdict) → judged_as rule plan part row o ≡ Ok v → (o ≡ unrefused) × (verdict_on plan (views_of rule part) row ≡ v)
  unfolding judged_as
  verdict_of_lem (Ok _) v e = (refl, cc)
  verdict_of_lem (Err r) v e = absurd (let z : ◌≡◌ {A = ℕ} 0 1 = cc in omega arith)

  -- the verdict on a part that is an atom
  atom_means : (j : Judgeable) (p : View) → is_atom p ≡ true → view_fits (channel_count rule) part p ≡ true
      → VerdictMeans (start_rows plan) (cycle_rows plan) row (Holds (run_of plan) (formula_from p (formula_to (views_of rule) part))) (verdict_on plan p row)
  unfolding verdict_on formula_from Holds rows
  atom_means j (view.Atom x) c fits =
      judged plan (cleared (channel_count rule) plan (clear_both rule plan j.inputs).1).0.a_cycle row j.row_there (channel_count rule) x
      (atom_fits_lem (channel_count rule) part x fits)
  atom_means j (view.Operator o) c fits = absurd (false≢true c)

  verdict_means : Judgeable → VerdictMeans (start_rows plan) (cycle_rows plan) row (Holds (run_of plan) (formula_of (views_of rule) part)) (verdict_on plan (views_of rule part) row)
  unfolding formula_of formula_to
  verdict_means j =
      atom_means j (views_of rule part) j.atom (cleared_fits rule (clear_both rule plan j.inputs).0 part j.part_there)

  -- JUDGE KEEPS ITS PROMISE.
  pub judge_promise : {answer : Result Verdict Refusal} → answer ≡ judge_of rule plan part row → JudgePromise rule plan part row answer
  unfolding judge_of
  judge_promise {answer} e = record {
    is_judge = e;
    meaning = λ v q.
        let a = verdict_of_lem (judge_outcome rule plan part row) v (sym e ∙ q) in
        subst (VerdictMeans (start_rows plan) (cycle_rows plan) row (Holds (run_of plan) (formula_of (views_of rule) part))) a.1 (verdict_means (judge_cleared a.0));
  }

  judge_small : RefusesOnly Small (judge_outcome rule plan part row)
  unfolding judge_outcome
  judge_small =
      or_else_only Small (inputs_outcome rule plan) (unless judgeable Absent) (within_small 1 6 (inputs_outcome rule plan) (inputs_within rule plan))
      (λ _. unless_only Small judgeable Absent (omega arith))

  refused_as : (o : Outcome) (r : Refusal) → judged_as rule plan part row o ≡ Err r → o ≡ Err r
  unfolding judged_as
  refused_as (Ok _) r e = absurd (let z : ◌≡◌ {A = ℕ} 0 1 = cc in omega arith)
  refused_as (Err q) r e = cc

  -- Two bytes hold the part and the row that a refusal names.
  pub judge_names : {answer : Result Verdict Refusal} → answer ≡ judge_of rule plan part row → (r : Refusal) → answer ≡ Err r → Small r
  unfolding judge_of
  judge_names e r f = refused_only Small (judge_outcome rule plan part row) judge_small r (refused_as (judge_outcome rule plan part row) r (sym e ∙ f))
