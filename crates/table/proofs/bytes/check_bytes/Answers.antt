-- `table::bytes::check_bytes` meets its contract. Assumes nothing.
use mathlib.Core.Path.{refl, sym, ap, ◌∙◌}
use lib.Dec.{ltb}
use borrow.Author.Tests.{lt-ltb, le-ltb}
use Rattle.refusal.proofs.First.{turn_first, turn_next, turn_end}
use Rattle.refusal.proofs.Search.{search_first, search_next, search_found, search_end}
use Rattle.table.specs.Layout.{above_one, bytes_outcome}
use Rattle.table.proofs.bytes.check_bytes.Goals as goal

pub parts-init : goal.parts-init
parts-init c = (refl, turn_first _ _)

pub loop-row-init : goal.loop-row-init
unfolding bytes_outcome
loop-row-init c = (c.parts.invariant.0, c.parts.invariant.1 ∙ turn_next _ _ _ c.parts-test.true ∙ search_first _ _ _ _)

pub loop-row-preserved : goal.loop-row-preserved
unfolding above_one
loop-row-preserved c = (c.loop-row.invariant.0, c.loop-row.invariant.1 ∙ search_next _ _ _ _ _ c.loop-row-test.true (ap (ltb 1) (sym c.mark_byte.ensures) ∙ le-ltb _ _ c.if-mark_byte-gt1.false))

pub parts-preserved : goal.parts-preserved
parts-preserved c = (c.loop-row.invariant.0, c.loop-row.invariant.1 ∙ search_end _ _ _ _ _ c.loop-row-test.false)

pub returns-after-parts : goal.returns-after-parts
returns-after-parts c = c.parts.invariant.0 ∙ sym (c.parts.invariant.1 ∙ turn_end _ _ _ c.parts-test.false)

pub returns-then-mark_byte-gt1 : goal.returns-then-mark_byte-gt1
unfolding above_one
returns-then-mark_byte-gt1 c = sym (c.loop-row.invariant.1 ∙ search_found _ _ _ _ _ c.loop-row-test.true (ap (ltb 1) (sym c.mark_byte.ensures) ∙ lt-ltb _ _ c.if-mark_byte-gt1.true))
