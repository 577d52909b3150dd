-- `labelling::guesses::guess_part` meets its contract. Assumes nothing.
use Rattle.verdict.proofs.Values.{atom_fit}
use Rattle.marks.proofs.PartsChecked.{asked}
use Rattle.labelling.proofs.OnePart.{atom_there, operator_there}
use Rattle.labelling.proofs.guesses.guess_part.Goals as goal

pub comparison_of-requires : goal.comparison_of-requires
comparison_of-requires c = (c.args.plan.now.sizes.channels, atom_there c.args.plan.now.bytes.now c.args.plan.now.fits c.args.n c.args.i c.requires.3 _ c.in-Atom.is)

pub guess_comparison-requires : goal.guess_comparison-requires
guess_comparison-requires c =
    let fits = atom_there c.args.plan.now.bytes.now c.args.plan.now.fits c.args.n c.args.i c.requires.3 _ c.in-Atom.is in
    (c.args.plan.now.fits, c.requires.0, c.requires.1, c.requires.2, atom_fit c.args.plan.now.sizes _ fits c.comparison_of.ensures, asked c.args.plan.now.sizes.channels _ fits c.comparison_of.ensures)

pub label_operator-requires : goal.label_operator-requires
label_operator-requires c = (c.requires.1, c.args.plan.now.fits.a_cycle, c.requires.2, operator_there c.args.plan.now.bytes.now c.args.plan.now.fits c.args.n c.args.i c.requires.3 _ c.in-Operator.is)
