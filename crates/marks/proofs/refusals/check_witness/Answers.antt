use mathlib.Core.Path.{sym, ap, ◌∙◌}
use Rattle.refusal.specs.First.{unless}
use Rattle.refusal.specs.declared.Refusal.TheVariants.{Witness}
use Rattle.marks.proofs.PartsChecked.{witness_told}
use Rattle.marks.proofs.refusals.check_witness.Goals as goal

pub returns-then-witness_in_order : goal.returns-then-witness_in_order
unfolding unless
returns-then-witness_in_order c = sym (ap (λ b. unless b (Witness c.args.i)) c.if-witness_in_order.true) ∙ witness_told c.args.plan.now.bytes.now c.args.table.now c.requires.fits c.args.i c.args.view _ c.witness_in_order.ensures

pub returns-else-witness_in_order : goal.returns-else-witness_in_order
unfolding unless
returns-else-witness_in_order c = sym (ap (λ b. unless b (Witness c.args.i)) c.if-witness_in_order.false) ∙ witness_told c.args.plan.now.bytes.now c.args.table.now c.requires.fits c.args.i c.args.view _ c.witness_in_order.ensures
