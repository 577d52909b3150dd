use mathlib.Core.Path.{sym, ◌∙◌}
use Rattle.plan.specs.inner.Sizes.{all_rows}
use Rattle.table.specs.Layout.{marked}
use Rattle.marks.proofs.Stepped as law
use Rattle.marks.proofs.closing.closes.Goals as goal

pub returns-in-After : goal.returns-in-After
returns-in-After c = law.ahead_closes c.args.table.now.sizes.start c.args.table.now.sizes.cycle (marked (all_rows c.args.table.now.sizes) c.args.table.now.bytes.now) c.args.operator (sym c.beside_of.ensures ∙ c.in-After.is)

pub returns-in-Before : goal.returns-in-Before
returns-in-Before c = law.back_closes c.args.table.now.sizes.start c.args.table.now.sizes.cycle (marked (all_rows c.args.table.now.sizes) c.args.table.now.bytes.now) c.args.operator (sym c.beside_of.ensures ∙ c.in-Before.is) c.truth_on-start.ensures c.truth_on-end.ensures c.turns_round.ensures
