use native.Mathlib.Omega.{arith}
use mathlib.Core.Path.{sym, ◌∙◌}
use Rattle.rule.proofs.SizesKnown.{counts_known}
use Rattle.rule.proofs.Taking as law
use Rattle.rule.proofs.part_at.Goals as goal

pub overflow_add-kind : goal.overflow_add-kind
overflow_add-kind c = omega (arith, counts_known c.args.sheet.now c.requires.0, c.requires.1)

pub bounds-sheet-n : goal.bounds-sheet-n
bounds-sheet-n c = omega (arith, counts_known c.args.sheet.now c.requires.0, c.requires.1)

pub returns-then-is_unknown : goal.returns-then-is_unknown
returns-then-is_unknown c = law.take_unknown c.args.sheet.now c.args.n c.requires.0 c.requires.1
    (law.kind_tested c.args.sheet.now c.args.n c.is_unknown.ensures c.shape_of-shape.ensures c.if-is_unknown.true)

pub overflow_add-at : goal.overflow_add-at
overflow_add-at c = omega (arith, counts_known c.args.sheet.now c.requires.0, c.requires.1)

pub overflow_mul-at : goal.overflow_mul-at
overflow_mul-at c = omega (arith, counts_known c.args.sheet.now c.requires.0, c.requires.1)

pub overflow_add-at-2 : goal.overflow_add-at-2
overflow_add-at-2 c = omega (arith, counts_known c.args.sheet.now c.requires.0, c.requires.1)

pub operand_sound-requires : goal.operand_sound-requires
operand_sound-requires c = let known = counts_known c.args.sheet.now c.requires.0 in (omega (arith, known, c.requires.1), known.3, sym c.is_unknown.ensures ∙ c.if-is_unknown.false)

pub part_on-requires : goal.part_on-requires
part_on-requires c = omega (arith, counts_known c.args.sheet.now c.requires.0, c.requires.1)

pub returns-then-operand_sound : goal.returns-then-operand_sound
returns-then-operand_sound c = law.sound_operand _ _ _ _ c.operand_sound.ensures c.if-operand_sound.true c.part_on.ensures
    ∙ law.take_known c.args.sheet.now c.args.n c.requires.0 c.requires.1
    (law.kind_tested c.args.sheet.now c.args.n c.is_unknown.ensures c.shape_of-shape.ensures c.if-is_unknown.false) c.shape_of-shape.ensures

pub returns-else-operand_sound : goal.returns-else-operand_sound
returns-else-operand_sound c = law.unsound_operand _ _ _ _ c.operand_sound.ensures c.if-operand_sound.false
    ∙ law.take_known c.args.sheet.now c.args.n c.requires.0 c.requires.1
    (law.kind_tested c.args.sheet.now c.args.n c.is_unknown.ensures c.shape_of-shape.ensures c.if-is_unknown.false) c.shape_of-shape.ensures
