use Rattle.live.proofs.ReadingLaws as law
use Rattle.live.proofs.readings.under_top.Goals as goal

-- src/readings.rt:29:9
pub returns-then-top-eq0 : goal.returns-then-top-eq0
returns-then-top-eq0 c = law.no_top _ _ c.if-top-eq0.true

-- src/readings.rt:25:1
pub returns-then-top-reading : goal.returns-then-top-reading
returns-then-top-reading c = law.above_top _ _ c.if-top-eq0.false c.if-top-reading.true

-- src/readings.rt:25:1
pub returns-else-top-reading : goal.returns-else-top-reading
returns-else-top-reading c = law.below_top _ _ c.if-top-eq0.false c.if-top-reading.false
