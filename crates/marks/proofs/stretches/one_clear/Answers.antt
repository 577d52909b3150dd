-- `marks::stretches::one_clear` meets its contract. Assumes nothing.
use Rattle.marks.proofs.Swept as law
use Rattle.marks.proofs.stretches.one_clear.Goals as goal

pub opposites-requires : goal.opposites-requires
opposites-requires c = let there = law.one_there c.args.table.now.sizes c.args.table.now.sized c.args.table.now.a_cycle c.requires.0 c.args.i c.args.a c.requires.1 c.requires.2 c.place-own.ensures c.place-other.ensures in (there.1, there.2, there.3)

pub copies_ahead-requires : goal.copies_ahead-requires
copies_ahead-requires c = law.one_there c.args.table.now.sizes c.args.table.now.sized c.args.table.now.a_cycle c.requires.0 c.args.i c.args.a c.requires.1 c.requires.2 c.place-own.ensures c.place-other.ensures

pub copies_behind-requires : goal.copies_behind-requires
copies_behind-requires c = law.one_there c.args.table.now.sizes c.args.table.now.sized c.args.table.now.a_cycle c.requires.0 c.args.i c.args.a c.requires.1 c.requires.2 c.place-own.ensures c.place-other.ensures

pub copies_behind-requires-in-WeakYesterday : goal.copies_behind-requires-in-WeakYesterday
copies_behind-requires-in-WeakYesterday c = law.one_there c.args.table.now.sizes c.args.table.now.sized c.args.table.now.a_cycle c.requires.0 c.args.i c.args.a c.requires.1 c.requires.2 c.place-own.ensures c.place-other.ensures

pub returns-in-Not : goal.returns-in-Not
returns-in-Not c = law.one_clear c.args.table.now.sizes.start c.args.table.now.sizes.cycle c.args.table.now.a_cycle c.args.table.now.bytes.now c.args.i c.args.a c.place-own.ensures c.place-other.ensures c.in-Not.is c.opposites.ensures

pub returns-in-Next : goal.returns-in-Next
returns-in-Next c = law.one_clear c.args.table.now.sizes.start c.args.table.now.sizes.cycle c.args.table.now.a_cycle c.args.table.now.bytes.now c.args.i c.args.a c.place-own.ensures c.place-other.ensures c.in-Next.is c.copies_ahead.ensures

pub returns-in-Yesterday : goal.returns-in-Yesterday
returns-in-Yesterday c = law.one_clear c.args.table.now.sizes.start c.args.table.now.sizes.cycle c.args.table.now.a_cycle c.args.table.now.bytes.now c.args.i c.args.a c.place-own.ensures c.place-other.ensures c.in-Yesterday.is c.copies_behind.ensures

pub returns-in-WeakYesterday : goal.returns-in-WeakYesterday
returns-in-WeakYesterday c = law.one_clear c.args.table.now.sizes.start c.args.table.now.sizes.cycle c.args.table.now.a_cycle c.args.table.now.bytes.now c.args.i c.args.a c.place-own.ensures c.place-other.ensures c.in-WeakYesterday.is c.copies_behind-in-WeakYesterday.ensures
