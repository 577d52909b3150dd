use Rattle.std.proofs.Common.{ap, sym, ◌∙◌}
use Rattle.endless_run.specs.Packing.{judge_word}
use Rattle.judge.proofs.Promised.{judge_names}
use Rattle.endless_run.proofs.Words.{judge_word_lem}
use Rattle.endless_run.proofs.endless_run_judge.Goals as goal

pub refusal_word-requires : goal.refusal_word-requires
refusal_word-requires c = judge_names c.args.rule.now c.args.plan.now c.args.part c.args.row c.judge.ensures.is_judge _ c.in-Err.is

pub returns-in-Ok : goal.returns-in-Ok
unfolding judge_word
returns-in-Ok c = judge_word_lem c.args.rule.now c.args.plan.now c.args.part c.args.row (c.verdict_word.ensures ∙ sym (ap judge_word c.in-Ok.is)) c.judge.ensures

pub returns-in-Err : goal.returns-in-Err
unfolding judge_word
returns-in-Err c = judge_word_lem c.args.rule.now c.args.plan.now c.args.part c.args.row (c.refusal_word.ensures ∙ sym (ap judge_word c.in-Err.is)) c.judge.ensures
