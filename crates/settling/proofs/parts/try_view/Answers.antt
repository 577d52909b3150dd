-- `settling::parts::try_view` meets its contract. Assumes nothing.
use Rattle.fields.proofs.ByteParts.{as_bytes}
use mathlib.Core.Path.{◌≡◌, subst}
use mathlib.Core.Bool.{true}
use Rattle.cltlb.specs.Fits.{view_fits}
use Rattle.cltlb.specs.declared.View.{View}
use Rattle.cltlb.proofs.Fits.{atom_fits_lem, operator_fits}
use Rattle.settling.proofs.Trying.{tried_view, operator_room, operator_tried}
use Rattle.laid_out.proofs.LastCycle.{few_passes}
use Rattle.settling.proofs.parts.try_view.Goals as goal

pub try_atom-requires : goal.try_atom-requires
try_atom-requires c = (c.requires.0, c.requires.1, c.requires.2, atom_fits_lem c.args.plan.now.sizes.channels c.args.i _ (subst (λ (q : View). view_fits c.args.plan.now.sizes.channels c.args.i q ≡ true) c.in-Atom.is c.requires.3))

pub laid_sizes-requires : goal.laid_sizes-requires
laid_sizes-requires c = (few_passes c.args.plan.now.fits c.args.passes c.requires.0, c.args.plan.now.fits.few_rows)

pub try_operator-requires : goal.try_operator-requires
try_operator-requires c = (c.requires.1, c.requires.2, operator_fits c.args.plan.now.sizes.channels c.args.i _ (subst (λ (q : View). view_fits c.args.plan.now.sizes.channels c.args.i q ≡ true) c.in-Operator.is c.requires.3), (operator_room c.args.plan.now.bytes.now c.args.plan.now.fits c.args.passes c.requires.0 (as_bytes _ c.args.plan.now.in_bytes) c.laid_sizes.ensures).0, (operator_room c.args.plan.now.bytes.now c.args.plan.now.fits c.args.passes c.requires.0 (as_bytes _ c.args.plan.now.in_bytes) c.laid_sizes.ensures).1)

pub returns-in-Operator : goal.returns-in-Operator
returns-in-Operator c = tried_view _ c.in-Operator.is (operator_tried c.args.plan.now.bytes.now c.args.plan.now.fits c.args.passes c.requires.0 (as_bytes _ c.args.plan.now.in_bytes) c.laid_sizes.ensures c.args.i _ c.try_operator.ensures)
