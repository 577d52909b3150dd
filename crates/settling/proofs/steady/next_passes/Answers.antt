-- `settling::steady::next_passes` meets its contract. Assumes nothing.
use Rattle.fields.proofs.ByteParts.{as_bytes}
use native.Mathlib.Omega.{arith}
use Rattle.settling.proofs.Steadying.{part_terms, part_atom_fits, passed_over}
use Rattle.settling.proofs.steady.next_passes.Goals as goal

pub comparison_of-requires : goal.comparison_of-requires
comparison_of-requires c = (c.args.inputs.now.plan.sizes.channels, part_atom_fits c.args.inputs.now.rule.now c.args.inputs.now.plan.bytes.now c.args.inputs.now.ready (as_bytes _ c.args.inputs.now.plan.in_bytes) c.args.i c.requires.0 c.take.ensures.is_take c.in-Ok.is c.view_of.ensures c.in-Atom.is)

pub steady_after-requires : goal.steady_after-requires
steady_after-requires c = (part_terms c.args.inputs.now.rule.now c.args.inputs.now.plan.bytes.now c.args.inputs.now.ready (as_bytes _ c.args.inputs.now.plan.in_bytes) c.args.i c.requires.0 c.take.ensures.is_take c.in-Ok.is c.view_of.ensures c.in-Atom.is c.comparison_of.ensures, omega (arith, c.requires.1))

pub returns : goal.returns
returns c = (omega (arith, c.steady_after.ensures.0), c.steady_after.ensures.1, passed_over c.args.inputs.now.rule.now c.args.inputs.now.plan.bytes.now c.args.inputs.now.ready (as_bytes _ c.args.inputs.now.plan.in_bytes) c.args.i c.requires.0 c.take.ensures.is_take c.in-Ok.is c.view_of.ensures c.in-Atom.is c.comparison_of.ensures c.steady_after.ensures.2)
