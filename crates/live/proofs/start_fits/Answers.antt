use Rattle.live.proofs.CallLaws as law
use Rattle.live.proofs.start_fits.Goals as goal

-- src/lib.rt:127:9
pub returns-then-v-lt1 : goal.returns-then-v-lt1
returns-then-v-lt1 c = law.too_few c.args.v c.args.tops.now c.if-v-lt1.true

-- src/lib.rt:130:9
pub returns-then-v-gt8 : goal.returns-then-v-gt8
returns-then-v-gt8 c = law.too_many c.args.v c.args.tops.now c.if-v-lt1.false c.if-v-gt8.true

-- src/lib.rt:133:9
pub returns-then-tops-v : goal.returns-then-tops-v
returns-then-tops-v c = law.other_tops c.args.v c.args.tops.now c.if-v-lt1.false c.if-v-gt8.false c.if-tops-v.true

-- src/lib.rt:123:1
pub returns : goal.returns
returns c = law.tops_decide c.args.v c.args.tops.now c.if-v-lt1.false c.if-v-gt8.false c.if-tops-v.false c.tops_fit.ensures
