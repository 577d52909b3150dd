use Rattle.live.specs.Calls.{add}
use Rattle.endless_run.specs.LivePromise.{AddWordPromise}
use Rattle.endless_run.proofs.LiveWords as law
use Rattle.endless_run.proofs.live_calls.endless_run_live_add.Goals as goal

pub outcome_word-requires : goal.outcome_word-requires
outcome_word-requires c = law.call_packs (add c.args.place c.args.rule.now) c.args.s.now c.add.ensures.is_call

pub returns : goal.returns
unfolding AddWordPromise
returns c = law.call_word (add c.args.place c.args.rule.now) c.args.s.now c.outcome_word.ensures c.add.ensures
