-- `settling::parts::try_atom` meets its contract. Assumes nothing.
use Rattle.fields.proofs.ByteParts.{as_bytes}
use native.Mathlib.Omega.{arith}
use mathlib.Core.Path.{ap}
use Rattle.plan.specs.declared.sizes.Sizes.{Sizes}
use Rattle.verdict.proofs.Values.{atom_fit}
use Rattle.settling.proofs.Trying.{laid_rows, atom_open, atom_closed}
use Rattle.laid_out.proofs.LastCycle.{few_passes}
use mathlib.Core.Bool.{not}
use Rattle.settling.proofs.parts.try_atom.Goals as goal

pub laid_sizes-laid-requires : goal.laid_sizes-laid-requires
laid_sizes-laid-requires c = (few_passes c.args.plan.now.fits c.args.passes c.requires.0, c.args.plan.now.fits.few_rows)

pub steady-requires : goal.steady-requires
steady-requires c = (atom_fit c.args.plan.now.sizes _ c.requires.3 c.comparison_of-comparison.ensures, omega (arith, ap (λ (q : Sizes). q.start) c.laid_sizes-laid.ensures, (laid_rows c.args.plan.now.bytes.now c.args.plan.now.fits c.args.passes c.requires.0).2), omega (arith, ap (λ (q : Sizes). q.start) c.laid_sizes-laid.ensures, (laid_rows c.args.plan.now.bytes.now c.args.plan.now.fits c.args.passes c.requires.0).0))

pub returns-then-not-steady : goal.returns-then-not-steady
returns-then-not-steady c = atom_open c.args.plan.now.bytes.now c.args.plan.now.fits c.args.passes c.requires.0 (as_bytes _ c.args.plan.now.in_bytes) c.args.atom c.requires.3 c.comparison_of-comparison.ensures (ap (λ (q : Sizes). q.start) c.laid_sizes-laid.ensures) (ap (λ (q : Sizes). q.cycle) c.laid_sizes-laid.ensures) c.steady.ensures c.args.i (ap not c.if-not-steady.true)

pub overflow_add-start : goal.overflow_add-start
overflow_add-start c = omega (arith, ap (λ (q : Sizes). q.start) c.laid_sizes-laid.ensures, ap (λ (q : Sizes). q.cycle) c.laid_sizes-laid.ensures, (laid_rows c.args.plan.now.bytes.now c.args.plan.now.fits c.args.passes c.requires.0).0)

pub put_marks-requires : goal.put_marks-requires
put_marks-requires c = (atom_fit c.args.plan.now.sizes _ c.requires.3 c.comparison_of-comparison.ensures, c.requires.1, c.requires.2, omega (arith, ap (λ (q : Sizes). q.start) c.laid_sizes-laid.ensures, ap (λ (q : Sizes). q.cycle) c.laid_sizes-laid.ensures, (laid_rows c.args.plan.now.bytes.now c.args.plan.now.fits c.args.passes c.requires.0).0), omega (arith, ap (λ (q : Sizes). q.start) c.laid_sizes-laid.ensures, ap (λ (q : Sizes). q.cycle) c.laid_sizes-laid.ensures))

pub returns : goal.returns
returns c = atom_closed c.args.plan.now.bytes.now c.args.plan.now.fits c.args.passes c.requires.0 (as_bytes _ c.args.plan.now.in_bytes) c.args.atom c.requires.3 c.comparison_of-comparison.ensures (ap (λ (q : Sizes). q.start) c.laid_sizes-laid.ensures) (ap (λ (q : Sizes). q.cycle) c.laid_sizes-laid.ensures) c.steady.ensures c.args.i (ap not c.if-not-steady.false) c.put_marks.ensures
