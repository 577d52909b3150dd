use Rattle.live.specs.Calls.{remove}
use Rattle.endless_run.specs.LivePromise.{DropWordPromise}
use Rattle.endless_run.proofs.LiveWords as law
use Rattle.endless_run.proofs.live_calls.endless_run_live_drop.Goals as goal

pub outcome_word-requires : goal.outcome_word-requires
outcome_word-requires c = law.call_packs (remove c.args.place) c.args.s.now c.remove.ensures.is_call

pub returns : goal.returns
unfolding DropWordPromise
returns c = law.call_word (remove c.args.place) c.args.s.now c.outcome_word.ensures c.remove.ensures
