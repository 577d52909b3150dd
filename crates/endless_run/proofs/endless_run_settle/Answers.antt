use Rattle.std.proofs.Common.{ap, sym, ◌∙◌}
use Rattle.endless_run.specs.Packing.{settle_word}
use Rattle.settling.proofs.Promised.{settle_names}
use Rattle.endless_run.proofs.SettleWords.{settle_word_lem}
use Rattle.endless_run.proofs.endless_run_settle.Goals as goal

pub refusal_word-requires : goal.refusal_word-requires
refusal_word-requires c = settle_names c.args.rule.now c.args.plan.now c.args.laid.now c.args.scratch.now c.settle.ensures.is_settle _ c.in-Err.is

pub returns-in-Ok : goal.returns-in-Ok
unfolding settle_word
returns-in-Ok c = settle_word_lem c.args.rule.now c.args.plan.now c.args.laid.now c.args.scratch.now _ _ (sym (ap settle_word c.in-Ok.is)) c.settle.ensures

pub returns-in-Err : goal.returns-in-Err
unfolding settle_word
returns-in-Err c = settle_word_lem c.args.rule.now c.args.plan.now c.args.laid.now c.args.scratch.now _ _ (c.refusal_word.ensures ∙ sym (ap settle_word c.in-Err.is)) c.settle.ensures
