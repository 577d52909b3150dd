use Rattle.live.proofs.CallLaws as law
use Rattle.live.proofs.kept_top.Goals as goal

-- src/lib.rt:104:9
pub returns-then-v-channel : goal.returns-then-v-channel
returns-then-v-channel c = law.no_top_kept c.args.tops.now c.args.v c.args.channel c.if-v-channel.true

-- src/lib.rt:99:1
pub returns : goal.returns
returns c = law.top_kept c.args.tops.now c.args.v c.args.channel c.if-v-channel.false c.u32_at.ensures
