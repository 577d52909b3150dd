use Rattle.live.specs.Calls.{row}
use Rattle.endless_run.specs.LivePromise.{RowWordPromise}
use Rattle.endless_run.proofs.LiveWords as law
use Rattle.endless_run.proofs.live_calls.endless_run_live_row.Goals as goal

pub outcome_word-requires : goal.outcome_word-requires
outcome_word-requires c = law.call_packs (row c.args.readings.now) c.args.s.now c.row.ensures.is_call

pub returns : goal.returns
unfolding RowWordPromise
returns c = law.call_word (row c.args.readings.now) c.args.s.now c.outcome_word.ensures c.row.ensures
