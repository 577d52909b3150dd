use Rattle.maker.proofs.Promised.{make_names}
use Rattle.endless_run.proofs.Words.{make_word_lem}
use Rattle.endless_run.proofs.endless_run_make.Goals as goal

pub truth_word-requires : goal.truth_word-requires
truth_word-requires c = make_names c.args.rule.now c.args.plan.now c.args.marks.now c.make.ensures.is_make

pub returns : goal.returns
returns c = make_word_lem c.args.rule.now c.args.plan.now c.args.marks.now _ c.truth_word.ensures c.make.ensures
