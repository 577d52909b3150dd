use mathlib.Core.Path.{ap, sym, ◌∙◌}
use native.Mathlib.Omega.{arith}
use Rattle.refusal.specs.declared.Refusal.TheVariants.{Closing}
use Rattle.refusal.proofs.Search.{search_on, search_stops, search_ends}
use Rattle.verdict.specs.Meaning.{is_changes}
use Rattle.verdict.specs.Rows.{verdict_of}
use Rattle.marks.proofs.PartsChecked.{steady_starts}
use Rattle.marks.proofs.refusals.check_steady.Goals as goal

pub loop-row-init : goal.loop-row-init
loop-row-init c = (omega arith, omega arith, steady_starts c.args.plan.now.bytes.now c.args.plan.now.bytes.now c.args.plan.now.fits c.args.i c.args.atom)

pub returns-then-is_changes : goal.returns-then-is_changes
returns-then-is_changes c = search_stops (λ r. is_changes (verdict_of c.args.plan.now.bytes.now c.args.atom r)) _ (Closing c.args.i) c.loop-row.row c.loop-row-test.true (sym (ap is_changes c.judge_row.ensures.answer) ∙ sym c.is_changes.ensures ∙ c.if-is_changes.true) ∙ sym c.loop-row.invariant.2

pub loop-row-preserved : goal.loop-row-preserved
loop-row-preserved c = (omega arith, omega arith, c.loop-row.invariant.2 ∙ search_on (λ r. is_changes (verdict_of c.args.plan.now.bytes.now c.args.atom r)) _ (Closing c.args.i) c.loop-row.row c.loop-row-test.true (sym (ap is_changes c.judge_row.ensures.answer) ∙ sym c.is_changes.ensures ∙ c.if-is_changes.false))

pub returns : goal.returns
returns c = search_ends (λ r. is_changes (verdict_of c.args.plan.now.bytes.now c.args.atom r)) _ (Closing c.args.i) c.loop-row.row c.loop-row-test.false ∙ sym c.loop-row.invariant.2
