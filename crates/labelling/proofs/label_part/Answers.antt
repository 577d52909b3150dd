-- `labelling::label_part` meets its contract. Assumes nothing.
use Rattle.labelling.proofs.OnePart.{atom_there, atom_made, operator_there, operator_ready, operator_made}
use Rattle.labelling.proofs.label_part.Goals as goal

pub label_atom-requires : goal.label_atom-requires
label_atom-requires c = (c.requires.0, c.requires.1, atom_there c.args.plan.now.bytes.now c.args.plan.now.fits c.args.n c.args.i c.requires.2 _ c.in-Atom.is)

pub label_operator-requires : goal.label_operator-requires
label_operator-requires c = (c.requires.0, c.args.plan.now.fits.a_cycle, c.requires.1, operator_there c.args.plan.now.bytes.now c.args.plan.now.fits c.args.n c.args.i c.requires.2 _ c.in-Operator.is)

pub closes_made-requires : goal.closes_made-requires
closes_made-requires c = operator_ready c.args.plan.now.bytes.now c.args.plan.now.fits c.args.n c.args.i c.requires.2 _ c.in-Operator.is c.label_operator.ensures c.requires.1

pub returns-in-Atom : goal.returns-in-Atom
returns-in-Atom c = atom_made c.args.plan.now.bytes.now c.args.plan.now.fits c.args.n c.args.i c.requires.2 _ c.in-Atom.is c.label_atom.ensures.0 c.label_atom.ensures.1

pub returns-in-Operator : goal.returns-in-Operator
returns-in-Operator c = operator_made c.args.plan.now.bytes.now c.args.plan.now.fits c.args.n c.args.i c.requires.2 _ c.in-Operator.is c.label_operator.ensures c.closes_made.ensures c.closing_outcome.ensures
