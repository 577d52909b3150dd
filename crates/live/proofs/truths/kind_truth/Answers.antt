use Rattle.live.proofs.TruthLaws as law
use Rattle.live.proofs.truths.kind_truth.Goals as goal

-- src/truths.rt:102:1
pub returns-in-1 : goal.returns-in-1
returns-in-1 c = law.of_less c.args.readings.now c.args.age c.args.rule.now c.args.before.now c.args.at c.args.this.now c.args.i c.in-1.is c.term_value.ensures c.term_value-in-1.ensures c.below.ensures

-- src/truths.rt:102:1
pub returns-in-2 : goal.returns-in-2
returns-in-2 c = law.of_equal c.args.readings.now c.args.age c.args.rule.now c.args.before.now c.args.at c.args.this.now c.args.i c.in-2.is c.term_value-in-2.ensures c.term_value-in-2-2.ensures c.same.ensures

-- src/truths.rt:102:1
pub returns-in-3 : goal.returns-in-3
returns-in-3 c = law.of_not c.args.readings.now c.args.age c.args.rule.now c.args.before.now c.args.at c.args.this.now c.args.i c.in-3.is c.byte_named.ensures c.negation.ensures

-- src/truths.rt:102:1
pub returns-in-4 : goal.returns-in-4
returns-in-4 c = law.of_and c.args.readings.now c.args.age c.args.rule.now c.args.before.now c.args.at c.args.this.now c.args.i c.in-4.is c.byte_named-in-4.ensures c.byte_named-in-4-2.ensures c.min.ensures

-- src/truths.rt:102:1
pub returns-in-5 : goal.returns-in-5
returns-in-5 c = law.of_or c.args.readings.now c.args.age c.args.rule.now c.args.before.now c.args.at c.args.this.now c.args.i c.in-5.is c.byte_named-in-5.ensures c.byte_named-in-5-2.ensures c.max.ensures

-- src/truths.rt:102:1
pub returns-in-9 : goal.returns-in-9
returns-in-9 c = law.of_yesterday c.args.readings.now c.args.age c.args.rule.now c.args.before.now c.args.at c.args.this.now c.args.i c.in-9.is c.byte_named-in-9.ensures c.since_add.ensures

-- src/truths.rt:102:1
pub returns-in-10 : goal.returns-in-10
returns-in-10 c = law.of_weak c.args.readings.now c.args.age c.args.rule.now c.args.before.now c.args.at c.args.this.now c.args.i c.in-10.is c.byte_named-in-10.ensures c.since_add-in-10.ensures

-- src/truths.rt:102:1
pub returns-in-11 : goal.returns-in-11
returns-in-11 c = law.of_since c.args.readings.now c.args.age c.args.rule.now c.args.before.now c.args.at c.args.this.now c.args.i c.in-11.is c.byte_named-in-11.ensures c.byte_named-in-11-2.ensures c.since_add-since.ensures c.min-in-11.ensures c.max-in-11.ensures

-- src/truths.rt:102:1
pub returns-in-12 : goal.returns-in-12
returns-in-12 c = law.of_trigger c.args.readings.now c.args.age c.args.rule.now c.args.before.now c.args.at c.args.this.now c.args.i c.in-12.is c.byte_named-in-12.ensures c.byte_named-in-12-2.ensures c.since_add-trigger.ensures c.max-in-12.ensures c.min-in-12.ensures

-- src/truths.rt:102:1
pub returns-in-13 : goal.returns-in-13
returns-in-13 c = law.of_window c.args.readings.now c.args.age c.args.rule.now c.args.before.now c.args.at c.args.this.now c.args.i c.in-13.is c.term_value-in-13.ensures c.u16_at.ensures.0 c.u16_at-in-13.ensures.0 c.within.ensures

-- src/truths.rt:102:1
pub returns-in-14 : goal.returns-in-14
returns-in-14 c = law.of_pinned c.args.readings.now c.args.age c.args.rule.now c.args.before.now c.args.at c.args.this.now c.args.i c.in-14.is c.term_value-in-14.ensures c.is_pinned.ensures

-- src/truths.rt:102:1
pub returns-in_default : goal.returns-in_default
returns-in_default c = law.of_none c.args.readings.now c.args.age c.args.rule.now c.args.before.now c.args.at c.args.this.now c.args.i c.in_default.in_default-own.rest.0.0.0.0.0.0.0.0.0.0.1 c.in_default.in_default-own.rest.0.0.0.0.0.0.0.0.0.1 c.in_default.in_default-own.rest.0.0.0.0.0.0.0.0.1 c.in_default.in_default-own.rest.0.0.0.0.0.0.0.1 c.in_default.in_default-own.rest.0.0.0.0.0.0.1 c.in_default.in_default-own.rest.0.0.0.0.0.1 c.in_default.in_default-own.rest.0.0.0.0.1 c.in_default.in_default-own.rest.0.0.0.1 c.in_default.in_default-own.rest.0.0.1 c.in_default.in_default-own.rest.0.1 c.in_default.in_default-own.rest.1
