use Rattle.rule.proofs.SizesRead as law
use Rattle.rule.proofs.sizes.read_sizes.Goals as goal

pub returns-then-sheet-lt-KINDS_AT : goal.returns-then-sheet-lt-KINDS_AT
returns-then-sheet-lt-KINDS_AT c = law.wrong _ (law.short _ c.if-sheet-lt-KINDS_AT.true)

pub returns-then-n-v : goal.returns-then-n-v
returns-then-n-v c = law.counts c.args.sheet.now c.u16_at-n.ensures.0 c.u16_at-v.ensures.0 c.if-sheet-lt-KINDS_AT.false c.if-n-v.true

pub returns-else-n-v : goal.returns-else-n-v
returns-else-n-v c = law.wrong _ (law.tested c.args.sheet.now c.u16_at-n.ensures.0 c.u16_at-v.ensures.0 c.if-sheet-lt-KINDS_AT.false c.if-n-v.false)
