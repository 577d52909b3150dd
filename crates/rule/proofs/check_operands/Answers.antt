use native.Mathlib.Omega.{arith}
use mathlib.Core.Path.{sym, ◌∙◌}
use Rattle.refusal.specs.declared.Refusal.TheVariants.{Operand}
use Rattle.refusal.proofs.Search.{search_starts, search_on, search_stops, search_ends}
use Rattle.rule.specs.Sheet.{untakeable}
use Rattle.rule.proofs.WholeSheet as law
use mathlib.Core.Path.{ap}
use mathlib.Core.Bool.{not}
use Rattle.rule.proofs.check_operands.Goals as goal

pub loop-n-init : goal.loop-n-init
loop-n-init c = search_starts _ _ _

pub overflow_add-n : goal.overflow_add-n
overflow_add-n c = omega (arith, law.known_length c.args.sheet.now c.args.parts c.requires.0)

pub bounds-sheet-n : goal.bounds-sheet-n
bounds-sheet-n c = omega (arith, law.known_length c.args.sheet.now c.args.parts c.requires.0)

pub overflow_add-at : goal.overflow_add-at
overflow_add-at c = omega (arith, law.known_length c.args.sheet.now c.args.parts c.requires.0)

pub overflow_mul-at : goal.overflow_mul-at
overflow_mul-at c = omega (arith, law.known_length c.args.sheet.now c.args.parts c.requires.0)

pub overflow_add-at-in-loop-n : goal.overflow_add-at-in-loop-n
overflow_add-at-in-loop-n c = omega (arith, law.known_length c.args.sheet.now c.args.parts c.requires.0)

pub operand_sound-requires : goal.operand_sound-requires
operand_sound-requires c = let sheet = c.args.sheet.now in (
  omega (arith, law.known_length sheet c.args.parts c.requires.0),
  law.known_channels sheet c.args.parts c.requires.0 c.requires.1,
  law.known_shape sheet c.args.parts c.requires.0 c.loop-n.n c.loop-n-test.true c.shape_of-shape.ensures,
)

pub returns-then-not-operand_sound : goal.returns-then-not-operand_sound
returns-then-not-operand_sound c = let low = c.loop-n-test.true in
    search_stops (untakeable c.args.sheet.now) c.args.parts Operand c.loop-n.n low
    (law.operand_tested c.args.sheet.now c.args.parts c.requires.0 c.requires.1 c.loop-n.n low c.shape_of-shape.ensures c.operand_sound.ensures (ap not c.if-not-operand_sound.true))
    ∙ sym c.loop-n.invariant

pub loop-n-preserved : goal.loop-n-preserved
loop-n-preserved c = let low = c.loop-n-test.true in
    c.loop-n.invariant ∙ search_on (untakeable c.args.sheet.now) c.args.parts Operand c.loop-n.n low
    (law.operand_tested c.args.sheet.now c.args.parts c.requires.0 c.requires.1 c.loop-n.n low c.shape_of-shape.ensures c.operand_sound.ensures (ap not c.if-not-operand_sound.false))

pub returns : goal.returns
returns c = search_ends (untakeable c.args.sheet.now) c.args.parts Operand c.loop-n.n c.loop-n-test.false ∙ sym c.loop-n.invariant
