-- `rule::check_kinds` meets its contract. Assumes nothing.
use mathlib.Core.Path.{sym, ◌∙◌}
use Rattle.refusal.specs.declared.Refusal.TheVariants.{Kind}
use Rattle.refusal.proofs.First.{at_lowest_clear}
use Rattle.refusal.proofs.Search.{search_starts, search_on, search_stops, search_ends}
use Rattle.rule.proofs.Taking.{kind_tested}
use Rattle.rule.specs.Kinds.{kind_unknown}
use Rattle.rule.proofs.check_kinds.Goals as goal

pub returns-then-kinds_known : goal.returns-then-kinds_known
returns-then-kinds_known c = sym ((at_lowest_clear (kind_unknown c.args.sheet.now) c.args.parts Kind).1 (c.kinds_known.ensures c.if-kinds_known.true))

pub loop-part-init : goal.loop-part-init
loop-part-init c = search_starts _ _ _

pub returns-then-is_unknown : goal.returns-then-is_unknown
returns-then-is_unknown c = search_stops (kind_unknown c.args.sheet.now) c.args.parts Kind c.loop-part.part c.loop-part-test.true (kind_tested c.args.sheet.now c.loop-part.part c.is_unknown.ensures c.shape_of.ensures c.if-is_unknown.true) ∙ sym c.loop-part.invariant

pub loop-part-preserved : goal.loop-part-preserved
loop-part-preserved c = c.loop-part.invariant ∙ search_on (kind_unknown c.args.sheet.now) c.args.parts Kind c.loop-part.part c.loop-part-test.true (kind_tested c.args.sheet.now c.loop-part.part c.is_unknown.ensures c.shape_of.ensures c.if-is_unknown.false)

pub returns : goal.returns
returns c = search_ends (kind_unknown c.args.sheet.now) c.args.parts Kind c.loop-part.part c.loop-part-test.false ∙ sym c.loop-part.invariant
