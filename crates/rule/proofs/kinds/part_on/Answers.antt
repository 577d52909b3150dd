-- `rule::kinds::part_on` meets its contract. Assumes nothing.
use mathlib.Core.Path.{◌∙◌}
use mir.Syntax.{w32}
use mir.ValLaws.{to_z-of_z}
use Rattle.rule.proofs.OperandsSound as law
use Rattle.rule.proofs.kinds.part_on.Goals as goal

pub returns-in-Comparison : goal.returns-in-Comparison
returns-in-Comparison c = law.terms_part c.args.s.now c.args.at c.args.kind c.in-Comparison.is c.term_on.result c.term_on-in-Comparison.result c.term_on.ensures c.term_on-in-Comparison.ensures c.atom_part.ensures

pub returns-in-NamesOne : goal.returns-in-NamesOne
returns-in-NamesOne c = law.one_part c.args.s.now c.args.at c.args.kind c.in-NamesOne.is c.u16_at.ensures.0 c.one_part.ensures

pub returns-in-NamesTwo : goal.returns-in-NamesTwo
returns-in-NamesTwo c = law.two_part c.args.s.now c.args.at c.args.kind c.in-NamesTwo.is c.u16_at-in-NamesTwo.ensures.0 c.u16_at-in-NamesTwo-2.ensures.0 c.two_part.ensures

pub returns-in-Window : goal.returns-in-Window
returns-in-Window c = law.window_part c.args.s.now c.args.at c.args.kind c.in-Window.is c.channel_on.ensures (to_z-of_z w32 c.shift_on.result (record { sfits = c.shift_on.type_inv }) ∙ c.shift_on.ensures) c.u16_at-in-Window.ensures.0 c.u16_at-in-Window-2.ensures.0

pub returns-in-Pinned : goal.returns-in-Pinned
returns-in-Pinned c = law.pinned_part c.args.s.now c.args.at c.args.kind c.in-Pinned.is c.channel_on-in-Pinned.ensures (to_z-of_z w32 c.shift_on-in-Pinned.result (record { sfits = c.shift_on-in-Pinned.type_inv }) ∙ c.shift_on-in-Pinned.ensures)

pub returns-in-Unknown : goal.returns-in-Unknown
returns-in-Unknown c = law.none_part c.args.s.now c.args.at c.args.kind _ c.in-Unknown.is
