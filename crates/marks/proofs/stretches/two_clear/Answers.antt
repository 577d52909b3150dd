-- `marks::stretches::two_clear` meets its contract. Assumes nothing.
use Rattle.marks.proofs.Swept as law
use Rattle.marks.proofs.stretches.two_clear.Goals as goal

pub steps-requires : goal.steps-requires
steps-requires c = let there = law.two_there c.args.table.now.sizes c.args.table.now.sized c.args.table.now.a_cycle c.requires.0 c.args.i c.args.a c.requires.1 c.requires.2 c.place-own.ensures c.place-left.ensures c.args.b c.requires.3 c.place-right.ensures in (there.1, there.2, there.3, there.2, there.4)

pub steps-requires-in-Or : goal.steps-requires-in-Or
steps-requires-in-Or c = let there = law.two_there c.args.table.now.sizes c.args.table.now.sized c.args.table.now.a_cycle c.requires.0 c.args.i c.args.a c.requires.1 c.requires.2 c.place-own.ensures c.place-left.ensures c.args.b c.requires.3 c.place-right.ensures in (there.1, there.2, there.3, there.2, there.4)

pub steps_ahead-requires : goal.steps_ahead-requires
steps_ahead-requires c = law.two_there c.args.table.now.sizes c.args.table.now.sized c.args.table.now.a_cycle c.requires.0 c.args.i c.args.a c.requires.1 c.requires.2 c.place-own.ensures c.place-left.ensures c.args.b c.requires.3 c.place-right.ensures

pub steps_ahead-requires-in-Release : goal.steps_ahead-requires-in-Release
steps_ahead-requires-in-Release c = law.two_there c.args.table.now.sizes c.args.table.now.sized c.args.table.now.a_cycle c.requires.0 c.args.i c.args.a c.requires.1 c.requires.2 c.place-own.ensures c.place-left.ensures c.args.b c.requires.3 c.place-right.ensures

pub steps_behind-requires : goal.steps_behind-requires
steps_behind-requires c = law.two_there c.args.table.now.sizes c.args.table.now.sized c.args.table.now.a_cycle c.requires.0 c.args.i c.args.a c.requires.1 c.requires.2 c.place-own.ensures c.place-left.ensures c.args.b c.requires.3 c.place-right.ensures

pub steps_behind-requires-in-Trigger : goal.steps_behind-requires-in-Trigger
steps_behind-requires-in-Trigger c = law.two_there c.args.table.now.sizes c.args.table.now.sized c.args.table.now.a_cycle c.requires.0 c.args.i c.args.a c.requires.1 c.requires.2 c.place-own.ensures c.place-left.ensures c.args.b c.requires.3 c.place-right.ensures

pub returns-in-And : goal.returns-in-And
returns-in-And c = law.two_clear c.args.table.now.sizes.start c.args.table.now.sizes.cycle c.args.table.now.a_cycle c.args.table.now.bytes.now c.args.i c.args.a c.place-own.ensures c.place-left.ensures c.args.b c.place-right.ensures c.in-And.is c.steps.ensures

pub returns-in-Or : goal.returns-in-Or
returns-in-Or c = law.two_clear c.args.table.now.sizes.start c.args.table.now.sizes.cycle c.args.table.now.a_cycle c.args.table.now.bytes.now c.args.i c.args.a c.place-own.ensures c.place-left.ensures c.args.b c.place-right.ensures c.in-Or.is c.steps-in-Or.ensures

pub returns-in-Until : goal.returns-in-Until
returns-in-Until c = law.two_clear c.args.table.now.sizes.start c.args.table.now.sizes.cycle c.args.table.now.a_cycle c.args.table.now.bytes.now c.args.i c.args.a c.place-own.ensures c.place-left.ensures c.args.b c.place-right.ensures c.in-Until.is c.steps_ahead.ensures

pub returns-in-Release : goal.returns-in-Release
returns-in-Release c = law.two_clear c.args.table.now.sizes.start c.args.table.now.sizes.cycle c.args.table.now.a_cycle c.args.table.now.bytes.now c.args.i c.args.a c.place-own.ensures c.place-left.ensures c.args.b c.place-right.ensures c.in-Release.is c.steps_ahead-in-Release.ensures

pub returns-in-Since : goal.returns-in-Since
returns-in-Since c = law.two_clear c.args.table.now.sizes.start c.args.table.now.sizes.cycle c.args.table.now.a_cycle c.args.table.now.bytes.now c.args.i c.args.a c.place-own.ensures c.place-left.ensures c.args.b c.place-right.ensures c.in-Since.is c.steps_behind.ensures

pub returns-in-Trigger : goal.returns-in-Trigger
returns-in-Trigger c = law.two_clear c.args.table.now.sizes.start c.args.table.now.sizes.cycle c.args.table.now.a_cycle c.args.table.now.bytes.now c.args.i c.args.a c.place-own.ensures c.place-left.ensures c.args.b c.place-right.ensures c.in-Trigger.is c.steps_behind-in-Trigger.ensures
