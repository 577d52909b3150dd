use Rattle.std.specs.Prelude.{Err}
use Rattle.plan.specs.inner.Sizes.{all_rows}
use Rattle.maker.specs.inner.Parts.{MadeTo}
use Rattle.std.proofs.Common.{rules}
use mathlib.Core.Path.{refl, ◌∙◌}
use Rattle.maker.proofs.Turns.{made_none, turns_first, turns_next, turns_stop, turns_end, stopped, ended}
use Rattle.maker.proofs.make_parts.Goals as goal

pub loop-i-init : goal.loop-i-init
loop-i-init c = (turns_first _ _ c.args.inputs.now.ready, made_none _ _ c.args.inputs.now.ready c.requires, refl)

pub returns-in_err-make_part : goal.returns-in_err-make_part
returns-in_err-make_part c =
    let e = turns_stop _ _ c.args.inputs.now.ready c.loop-i.i c.loop-i.invariant.0 c.loop-i-test.true c.make_part.ensures.0 c.in_err-make_part.was in
    let left : MadeTo c.args.inputs.now.rule.now c.args.inputs.now.plan.bytes.now c.args.table.now _ c.args.inputs.now.parts (all_rows c.args.inputs.now.plan.sizes) c.args.inputs.now.parts (Err c.in_err-make_part.field-0.0)
    = stopped (c.make_part.ensures.1.long ∙ c.loop-i.invariant.2) in
    search rules

pub loop-i-preserved : goal.loop-i-preserved
loop-i-preserved c = (
  turns_next _ _ c.args.inputs.now.ready c.loop-i.i c.loop-i.invariant.0 c.loop-i-test.true c.make_part.ensures.0 c.in_ok-make_part.was,
  c.make_part.ensures.1.made c.in_ok-make_part.was,
  c.make_part.ensures.1.long ∙ c.loop-i.invariant.2,
)

pub returns : goal.returns
returns c = (
  turns_end _ _ c.args.inputs.now.ready c.loop-i.i c.loop-i.invariant.0 c.loop-i-test.false,
  ended c.loop-i.auto.i-end c.loop-i-test.false c.loop-i.invariant.1 c.loop-i.invariant.2,
)
