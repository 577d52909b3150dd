use Rattle.marks.proofs.PartsChecked as law
use Rattle.marks.proofs.refusals.check_closing.Goals as goal

pub check_steady-requires : goal.check_steady-requires
check_steady-requires c = law.atom_there c.args.plan.now.bytes.now c.args.table.now c.requires.0.fits c.args.i _ c.in-Atom.is c.args.n c.requires.0.part_fits

pub closes-requires : goal.closes-requires
closes-requires c = law.operator_there c.args.plan.now.bytes.now c.args.table.now c.requires.0.fits c.args.i _ c.in-Operator.is c.args.n c.requires.0.part_fits

pub returns-in-Atom : goal.returns-in-Atom
returns-in-Atom c = law.atom_closing c.args.plan.now.bytes.now c.args.table.now c.requires.0.fits c.args.i _ c.in-Atom.is c.check_steady.ensures

pub returns-in-Operator : goal.returns-in-Operator
returns-in-Operator c = law.operator_closing c.args.plan.now.bytes.now c.args.table.now c.requires.0.fits c.args.i _ c.in-Operator.is c.closes.ensures c.closing_outcome.ensures
