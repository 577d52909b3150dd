-- `marks::refusals::surely_clear` meets its contract. Assumes nothing.
use Rattle.verdict.proofs.Values.{atom_fit}
use Rattle.marks.proofs.PartsChecked as law
use Rattle.marks.proofs.refusals.surely_clear.Goals as goal

pub comparison_of-requires : goal.comparison_of-requires
comparison_of-requires c = (c.args.plan.now.sizes.channels, law.atom_there c.args.plan.now.bytes.now c.args.table.now c.requires.0.fits c.args.i _ c.in-Atom.is c.args.n c.requires.0.part_fits)

pub verdicts_agree-requires : goal.verdicts_agree-requires
verdicts_agree-requires c = (c.requires.0.fits, c.requires.2, c.requires.0.sized, c.requires.0.present, atom_fit c.args.plan.now.sizes _ (law.atom_there c.args.plan.now.bytes.now c.args.table.now c.requires.0.fits c.args.i _ c.in-Atom.is c.args.n c.requires.0.part_fits) c.comparison_of.ensures, law.asked c.args.plan.now.sizes.channels _ (law.atom_there c.args.plan.now.bytes.now c.args.table.now c.requires.0.fits c.args.i _ c.in-Atom.is c.args.n c.requires.0.part_fits) c.comparison_of.ensures)

pub operator_clear-requires : goal.operator_clear-requires
operator_clear-requires c = (c.requires.1, c.requires.0.present, law.operator_there c.args.plan.now.bytes.now c.args.table.now c.requires.0.fits c.args.i _ c.in-Operator.is c.args.n c.requires.0.part_fits)

pub returns-in-Atom : goal.returns-in-Atom
returns-in-Atom c = law.atom_clear c.args.plan.now.bytes.now c.args.table.now c.requires.0.fits c.args.i _ c.in-Atom.is c.args.n c.requires.0.part_fits c.comparison_of.ensures c.verdicts_agree.ensures

pub returns-in-Operator : goal.returns-in-Operator
returns-in-Operator c = law.operator_clear c.args.plan.now.bytes.now c.args.table.now c.requires.0.fits c.args.i _ c.in-Operator.is c.operator_clear.ensures
