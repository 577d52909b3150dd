use native.Mathlib.Omega.{arith}
use Rattle.plan.specs.inner.Sizes.{all_rows}
use Rattle.verdict.specs.Rows.{atom_at}
use Rattle.table.specs.Layout.{marked}
use Rattle.marks.proofs.Stepped as law
use Rattle.marks.proofs.PartsChecked.{atom_there, operator_there}
use Rattle.marks.proofs.equations.expected_mark.Goals as goal

pub atom_at-requires : goal.atom_at-requires
atom_at-requires c = (atom_there c.args.plan.now.bytes.now c.args.table.now c.args.plan.now.fits c.args.i _ c.in-Atom.is c.args.n c.requires.2, omega (arith, c.requires.3))

pub operator_mark-requires : goal.operator_mark-requires
operator_mark-requires c = (c.requires.1, operator_there c.args.plan.now.bytes.now c.args.table.now c.args.plan.now.fits c.args.i _ c.in-Operator.is c.args.n c.requires.2, c.requires.3)

pub returns-in-Atom : goal.returns-in-Atom
returns-in-Atom c = law.atom_expected c.args.plan.now.sizes.start c.args.plan.now.sizes.cycle (marked (all_rows c.args.plan.now.sizes) c.args.table.now) (atom_at c.args.plan.now.bytes.now) c.args.i c.args.row c.in-Atom.is c.atom_at.ensures

pub returns-in-Operator : goal.returns-in-Operator
returns-in-Operator c = law.operator_expected c.args.plan.now.sizes.start c.args.plan.now.sizes.cycle (marked (all_rows c.args.plan.now.sizes) c.args.table.now) (atom_at c.args.plan.now.bytes.now) c.args.i c.args.row c.in-Operator.is c.operator_mark.ensures
