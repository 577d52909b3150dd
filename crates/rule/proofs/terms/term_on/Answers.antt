-- `rule::terms::term_on` meets its contract. Assumes nothing.
use mathlib.Core.Path.{◌∙◌}
use mir.Syntax.{w32}
use mir.ValLaws.{to_z-of_z}
use Rattle.rule.proofs.TermsSound as law
use Rattle.rule.proofs.terms.term_on.Goals as goal

pub returns-then-s-at-eq0 : goal.returns-then-s-at-eq0
returns-then-s-at-eq0 c = law.constant_on c.args.s.now c.args.at c.if-s-at-eq0.true (to_z-of_z w32 c.i32_at.result (record { sfits = c.i32_at.type_inv }) ∙ c.i32_at.ensures)

pub returns : goal.returns
returns c = law.reading_on_lem c.args.s.now c.args.at c.if-s-at-eq0.false c.channel_on.ensures (to_z-of_z w32 c.shift_on.result (record { sfits = c.shift_on.type_inv }) ∙ c.shift_on.ensures)
