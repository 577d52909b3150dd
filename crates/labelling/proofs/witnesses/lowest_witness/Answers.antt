-- `labelling::witnesses::lowest_witness` meets its contract. Assumes nothing.
use mathlib.Core.Path.{ap, ◌∙◌}
use Rattle.cltlb.specs.declared.View.TheVariants as view
use Rattle.plan.specs.inner.Sizes.{all_rows}
use Rattle.table.specs.Layout.{marked}
use Rattle.labelling.proofs.LowestRows as law
use Rattle.labelling.proofs.witnesses.lowest_witness.Goals as goal

pub lowest_two-requires : goal.lowest_two-requires
lowest_two-requires c =
    let args = c.args in
    let plan = args.plan.now in
    law.second_there plan.bytes.now plan.fits (marked (all_rows plan.sizes) args.table.now) args.i (c.in-Operator.is ∙ ap view.Operator c.in-Two.is) args.n c.requires.1 c.requires.2

pub returns-in-Two : goal.returns-in-Two
returns-in-Two c =
    let args = c.args in
    let plan = args.plan.now in
    law.two_lowest plan.bytes.now plan.fits (marked (all_rows plan.sizes) args.table.now) args.i (c.in-Operator.is ∙ ap view.Operator c.in-Two.is) c.last_mark-last.ensures c.lowest_two.ensures c.unwrap_or.ensures

pub returns-in-One : goal.returns-in-One
returns-in-One c =
    let args = c.args in
    let plan = args.plan.now in
    law.one_lowest plan.bytes.now plan.fits (marked (all_rows plan.sizes) args.table.now) args.i (c.in-Operator.is ∙ ap view.Operator c.in-One.is)

pub returns-in-Atom : goal.returns-in-Atom
returns-in-Atom c =
    let args = c.args in
    let plan = args.plan.now in
    law.atom_lowest plan.bytes.now plan.fits (marked (all_rows plan.sizes) args.table.now) args.i c.in-Atom.is
