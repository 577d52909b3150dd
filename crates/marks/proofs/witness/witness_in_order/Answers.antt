use Rattle.std.proofs.Common.{rules}
use Rattle.marks.specs.Parts.{witness_in_order}
use mathlib.Core.Path.{◌≡◌, subst}
use mathlib.Core.Bool.{true}
use Rattle.cltlb.specs.Fits.{view_fits}
use Rattle.cltlb.specs.declared.View.{View}
use Rattle.cltlb.proofs.Fits.{operator_fits}
use Rattle.marks.proofs.witness.witness_in_order.Goals as goal

pub operator_witness-requires : goal.operator_witness-requires
operator_witness-requires c =
    let table = c.args.table.now in
    (c.requires.0, operator_fits table.sizes.channels table.parts _ (subst (λ (p : View). view_fits table.sizes.channels table.parts p ≡ true) c.in-Operator.is c.requires.1))

pub returns-in-Atom : goal.returns-in-Atom
unfolding witness_in_order
returns-in-Atom c = search rules

pub returns-in-Operator : goal.returns-in-Operator
unfolding witness_in_order
returns-in-Operator c = search rules
