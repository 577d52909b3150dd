use Rattle.live.specs.Kept.{reading_after, readings_after}
use Rattle.live.proofs.Filling.{fill_behind, fill_all}
use Rattle.live.proofs.ReadingLaws as law
use native.Mathlib.Omega.{arith}
use Rattle.live.proofs.readings.keep_row.Goals as goal

pub loop-channel-init : goal.loop-channel-init
loop-channel-init c = law.older_kept c.args.readings.now c.args.tops.now c.args.row.now c.args.v _ _ c.copy_within.ensures.by_index.0 c.copy_within.ensures.by_index.2 c.copy_within-2.ensures.by_index.0 c.copy_within-2.ensures.by_index.1

pub loop-channel-preserved : goal.loop-channel-preserved
loop-channel-preserved c =
    fill_behind 0 _ (reading_after c.args.readings.now c.args.tops.now c.args.row.now c.args.v) 32 _ _ _ c.loop-channel.invariant (omega arith)
    (law.newest_kept c.args.readings.now c.args.tops.now c.args.row.now c.args.v _ c.new_reading.ensures)

pub returns : goal.returns
unfolding readings_after
returns c = fill_all _ (reading_after c.args.readings.now c.args.tops.now c.args.row.now c.args.v) _ _ c.loop-channel.invariant 40 (omega arith) (omega arith)
