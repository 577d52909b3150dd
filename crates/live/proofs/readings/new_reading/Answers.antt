use Rattle.live.proofs.ReadingLaws as law
use Rattle.live.proofs.readings.new_reading.Goals as goal

-- src/readings.rt:44:9
pub returns-then-v-channel : goal.returns-then-v-channel
returns-then-v-channel c = law.no_channel c.args.tops.now c.args.row.now c.args.v c.args.channel c.if-v-channel.true

-- src/readings.rt:39:1
pub returns : goal.returns
returns c = law.new_channel c.args.tops.now c.args.row.now c.args.v c.args.channel c.if-v-channel.false c.u32_at.ensures c.kept_number.ensures.0 c.under_top.ensures
