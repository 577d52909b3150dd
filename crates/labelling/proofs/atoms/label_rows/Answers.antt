-- `labelling::atoms::label_rows` meets its contract. Assumes nothing.
use Rattle.verdict.proofs.Values.{atom_fit}
use Rattle.labelling.proofs.Verdicts as law
use Rattle.labelling.proofs.atoms.label_rows.Goals as goal

pub judge_comparison-verdict-requires : goal.judge_comparison-verdict-requires
judge_comparison-verdict-requires c = (atom_fit c.args.plan.now.sizes _ c.requires.2 c.requires.3, c.loop-row-test.true)

pub returns-then-is_changes : goal.returns-then-is_changes
returns-then-is_changes c = law.label_stops _ _ c.args.plan.now.fits _ _ c.place-own.ensures _ c.requires.3 c.loop-row.invariant c.loop-row-test.true c.judge_comparison-verdict.ensures c.is_changes.ensures c.if-is_changes.true

pub loop-row-preserved : goal.loop-row-preserved
loop-row-preserved c = law.label_next _ _ _ _ _ _ c.loop-row.invariant c.loop-row-test.true c.judge_comparison-verdict.ensures c.is_changes.ensures c.if-is_changes.false c.is_true.ensures c.put_mark.ensures

pub returns : goal.returns
returns c = law.label_ends _ _ c.args.plan.now.fits _ _ c.place-own.ensures _ c.requires.3 c.loop-row.invariant c.loop-row-test.false
