-- `table::bytes::check_table` meets its contract. Assumes nothing.
use mathlib.Core.Path.{◌∙◌, sym}
use Rattle.table.proofs.Refused as refused
use Rattle.table.proofs.bytes.check_table.Goals as goal

pub returns-then-table-lt4 : goal.returns-then-table-lt4
returns-then-table-lt4 c = refused.short _ _ _ c.if-table-lt4.true

pub returns-then-u16_at-n : goal.returns-then-u16_at-n
returns-then-u16_at-n c = refused.other_parts _ _ _ c.if-table-lt4.false c.u16_at.ensures.0 c.if-u16_at-n.true

pub returns-then-u16_at-w : goal.returns-then-u16_at-w
returns-then-u16_at-w c = refused.other_rows _ _ _ c.if-table-lt4.false c.u16_at.ensures.0 c.if-u16_at-n.false c.u16_at-2.ensures.0 c.if-u16_at-w.true

pub returns-then-table-n : goal.returns-then-table-n
returns-then-table-n c = refused.other_length _ _ _ c.if-table-lt4.false c.u16_at.ensures.0 c.if-u16_at-n.false c.u16_at-2.ensures.0 c.if-u16_at-w.false c.if-table-n.true

pub returns-then-all_marks : goal.returns-then-all_marks
returns-then-all_marks c = refused.all_bytes _ _ _ (sym c.all_marks.ensures ∙ c.if-all_marks.true)
    ∙ refused.fitting _ _ _ c.if-table-lt4.false c.u16_at.ensures.0 c.if-u16_at-n.false c.u16_at-2.ensures.0 c.if-u16_at-w.false c.if-table-n.false

pub returns : goal.returns
returns c = c.check_bytes.ensures ∙ refused.fitting _ _ _ c.if-table-lt4.false c.u16_at.ensures.0 c.if-u16_at-n.false c.u16_at-2.ensures.0 c.if-u16_at-w.false c.if-table-n.false
