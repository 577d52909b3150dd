use Rattle.endless_run.proofs.LiveWords as law
use Rattle.endless_run.proofs.live_calls.endless_run_live_start.Goals as goal

pub outcome_word-requires : goal.outcome_word-requires
outcome_word-requires c = law.start_packs c.args.channels c.args.tops.now c.start.ensures.is_start

pub returns : goal.returns
returns c = law.start_word c.args.s.now c.args.channels c.args.tops.now c.outcome_word.ensures c.start.ensures
