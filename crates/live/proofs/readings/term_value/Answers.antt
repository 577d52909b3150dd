use Rattle.live.proofs.ReadingLaws as law
use Rattle.live.proofs.readings.term_value.Goals as goal

-- src/readings.rt:97:9
pub returns-then-rule-at-eq0 : goal.returns-then-rule-at-eq0
returns-then-rule-at-eq0 c = law.constant_value c.args.readings.now c.args.age c.args.rule.now c.args.at c.if-rule-at-eq0.true c.u32_at-number.ensures c.kept_number.ensures.0

-- src/readings.rt:91:1
pub returns : goal.returns
returns c = law.reading_value c.args.readings.now c.args.age c.args.rule.now c.args.at c.if-rule-at-eq0.false c.u32_at-number.ensures c.reading_at.ensures
