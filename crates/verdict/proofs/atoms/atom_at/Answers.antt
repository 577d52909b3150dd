-- `verdict::atoms::atom_at` meets its contract. Assumes nothing.
use Rattle.verdict.specs.Rows.{atom_at}
use Rattle.verdict.proofs.Values.{atom_fit}
use Rattle.verdict.proofs.atoms.atom_at.Goals as goal

pub test_at-requires : goal.test_at-requires
test_at-requires c = (atom_fit c.args.plan.now.sizes c.args.atom c.requires.0 c.comparison_of.ensures, c.requires.1)

pub returns : goal.returns
unfolding atom_at
returns c = rw (← c.comparison_of.ensures) c.test_at.ensures
