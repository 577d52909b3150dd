use Rattle.acceptance.proofs.CheckNames.{check_names}
use Rattle.endless_run.proofs.Words.{check_word_lem}
use Rattle.endless_run.proofs.endless_run_check.Goals as goal

pub truth_word-requires : goal.truth_word-requires
truth_word-requires c = check_names c.args.rule.now c.args.plan.now c.args.marks.now c.check.ensures.is_check

pub returns : goal.returns
returns c = check_word_lem c.args.rule.now c.args.plan.now c.args.marks.now c.truth_word.ensures c.check.ensures
