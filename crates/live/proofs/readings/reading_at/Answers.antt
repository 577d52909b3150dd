use Rattle.live.proofs.ReadingLaws as law
use Rattle.live.proofs.readings.reading_at.Goals as goal

-- src/readings.rt:82:9
pub returns-then-at-age : goal.returns-then-at-age
returns-then-at-age c = law.before_add _ _ _ c.if-at-age.true

-- src/readings.rt:85:9
pub returns-then-at-ge40 : goal.returns-then-at-ge40
returns-then-at-ge40 c = law.past_all _ _ _ c.if-at-age.false c.if-at-ge40.true

-- src/readings.rt:77:1
pub returns : goal.returns
returns c = law.since_seen c.args.readings.now c.args.age c.args.at c.if-at-age.false c.if-at-ge40.false
