use mathlib.Core.Path.{refl, sym, ◌∙◌}
use Rattle.std.proofs.Common.{rules}
use Rattle.inputs.proofs.Ways as law
use Rattle.inputs.proofs.read_inputs.Goals as goal

pub returns-in_err-sheet : goal.returns-in_err-sheet
returns-in_err-sheet c = let e = law.sheet_refused c.args.rule.now c.args.plan.now (sym c.check_sheet.ensures ∙ c.in_err-sheet.was) in search rules

pub returns-in_err-sizes : goal.returns-in_err-sizes
returns-in_err-sizes c =
    let e = law.plan_refused c.args.rule.now c.args.plan.now (sym c.check_sheet.ensures ∙ c.in_ok-sheet.was) (sym c.check_plan.ensures ∙ c.in_err-sizes.was) in
    search rules

pub invariant_of-plan : goal.invariant_of-plan
invariant_of-plan c = record { in_bytes = search rules; fits = (law.read_ready c.args.rule.now c.args.plan.now (sym c.check_sheet.ensures ∙ c.in_ok-sheet.was) (sym c.check_plan.ensures ∙ c.in_ok-sizes.was)).fits }

pub invariant_of-result : goal.invariant_of-result
invariant_of-result c = record { ready = law.read_ready c.args.rule.now c.args.plan.now (sym c.check_sheet.ensures ∙ c.in_ok-sheet.was) (sym c.check_plan.ensures ∙ c.in_ok-sizes.was) }

pub returns : goal.returns
returns c = (
  refl,
  refl,
  sym (law.both_fit c.args.rule.now c.args.plan.now (sym c.check_sheet.ensures ∙ c.in_ok-sheet.was) (sym c.check_plan.ensures ∙ c.in_ok-sizes.was)),
)
