-- `verdict::atoms::judge_row` meets its contract. Assumes nothing.
use Rattle.verdict.specs.Rows.{verdict_of}
use Rattle.verdict.proofs.Values.{atom_fit, judgement}
use Rattle.verdict.proofs.atoms.judge_row.Goals as goal

pub judge_comparison-requires : goal.judge_comparison-requires
judge_comparison-requires c = (atom_fit c.args.plan.now.sizes c.args.atom c.requires.0 c.comparison_of.ensures, c.requires.1)

pub returns : goal.returns
unfolding verdict_of
returns c = judgement c.args.plan.now.fits c.requires.0 c.args.row c.requires.1 _ (rw (← c.comparison_of.ensures) c.judge_comparison.ensures)
