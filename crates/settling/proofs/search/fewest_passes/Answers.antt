-- `settling::search::fewest_passes` meets its contract. Assumes nothing.
use Rattle.fields.proofs.ByteParts.{as_bytes}
use native.Mathlib.Omega.{arith}
use Rattle.settling.proofs.Searching.{few_passes, more_room, searching_first, no_more, more_laid, all_close, passed}
use mathlib.Core.Path.{ap}
use mathlib.Core.Bool.{not}
use Rattle.settling.proofs.search.fewest_passes.Goals as goal

pub loop-i-init : goal.loop-i-init
loop-i-init c = searching_first c.args.inputs.now.rule.now c.args.inputs.now.plan.bytes.now c.args.inputs.now.ready (as_bytes _ c.args.inputs.now.plan.in_bytes) c.requires

pub next_passes-more-requires : goal.next_passes-more-requires
next_passes-more-requires c = (c.loop-i-test.true, few_passes c.args.inputs.now.rule.now c.args.inputs.now.plan.bytes.now c.args.inputs.now.ready c.loop-i.passes c.loop-i.invariant.can)

pub returns-then-not-can_be_laid : goal.returns-then-not-can_be_laid
returns-then-not-can_be_laid c = no_more c.args.inputs.now.rule.now c.args.inputs.now.plan.bytes.now c.args.inputs.now.ready c.loop-i.invariant c.try_part.ensures.0 c.loop-i-test.true c.if-try_part.false c.next_passes-more.ensures.0 c.next_passes-more.ensures.2 c.can_be_laid.ensures (ap not c.if-not-can_be_laid.true)

pub repeat_rows-requires : goal.repeat_rows-requires
repeat_rows-requires c = (c.try_part.ensures.1.room, (more_room c.args.inputs.now.rule.now c.args.inputs.now.plan.bytes.now c.args.inputs.now.ready c.next_passes-more.ensures.0 (passed c.can_be_laid.ensures (ap not c.if-not-can_be_laid.false)) c.laid_sizes-laid.ensures).0, omega arith, (more_room c.args.inputs.now.rule.now c.args.inputs.now.plan.bytes.now c.args.inputs.now.ready c.next_passes-more.ensures.0 (passed c.can_be_laid.ensures (ap not c.if-not-can_be_laid.false)) c.laid_sizes-laid.ensures).1)

pub loop-i-preserved : goal.loop-i-preserved
loop-i-preserved c = more_laid c.args.inputs.now.rule.now c.args.inputs.now.plan.bytes.now c.args.inputs.now.ready c.loop-i.invariant c.try_part.ensures.0 c.loop-i-test.true c.if-try_part.false c.next_passes-more.ensures.0 c.next_passes-more.ensures.2 (as_bytes _ c.args.inputs.now.plan.in_bytes) (passed c.can_be_laid.ensures (ap not c.if-not-can_be_laid.false)) c.try_part.ensures.1 c.laid_sizes-laid.ensures c.repeat_rows.ensures

pub returns : goal.returns
returns c = all_close c.args.inputs.now.rule.now c.args.inputs.now.plan.bytes.now c.args.inputs.now.ready c.loop-i.invariant c.loop-i-test.false
