use native.Mathlib.Omega.{arith}
use mathlib.Core.Path.{ap, subst, ◌∙◌}
use lib.ListN.{length-set, length-take, length-drop}
use Rattle.cltlb.specs.declared.View.{View}
use Rattle.cltlb.specs.Fits.{view_fits}
use Rattle.rule.specs.Kinds.{operand_in}
use Rattle.rule.specs.inner.Words.{WordOperand}
use Rattle.rule.proofs.Putting as law
use Rattle.rule.proofs.write_part.Goals as goal

pub overflow_add-sheet : goal.overflow_add-sheet
overflow_add-sheet c = omega (arith, law.writable c.args.sheet.now c.args.n c.args.part c.args.parts c.requires.0 c.requires.1)

pub bounds-sheet-n : goal.bounds-sheet-n
bounds-sheet-n c = omega (arith, law.writable c.args.sheet.now c.args.n c.args.part c.args.parts c.requires.0 c.requires.1)

pub overflow_add-parts : goal.overflow_add-parts
overflow_add-parts c = omega (arith, law.writable c.args.sheet.now c.args.n c.args.part c.args.parts c.requires.0 c.requires.1)

pub overflow_mul-n : goal.overflow_mul-n
overflow_mul-n c = omega (arith, law.writable c.args.sheet.now c.args.n c.args.part c.args.parts c.requires.0 c.requires.1)

pub overflow_add-parts-2 : goal.overflow_add-parts-2
overflow_add-parts-2 c = omega (arith, law.writable c.args.sheet.now c.args.n c.args.part c.args.parts c.requires.0 c.requires.1)

pub slice_bounds-put_operand-count : goal.slice_bounds-put_operand-count
slice_bounds-put_operand-count c = simp length-set (omega (arith, law.writable c.args.sheet.now c.args.n c.args.part c.args.parts c.requires.0 c.requires.1))

pub slice_bounds-put_operand-start : goal.slice_bounds-put_operand-start
slice_bounds-put_operand-start c = simp length-set (omega (arith, law.writable c.args.sheet.now c.args.n c.args.part c.args.parts c.requires.0 c.requires.1))

pub put_operand-requires : goal.put_operand-requires
put_operand-requires c = let w = law.writable c.args.sheet.now c.args.n c.args.part c.args.parts c.requires.0 c.requires.1 in
    (simp (length-take, length-drop, length-set) (omega (arith, w)), ap (view_fits 8 64) c.view_of.ensures ∙ w.3)

pub returns : goal.returns
returns c = let w = law.writable c.args.sheet.now c.args.n
    c.args.part c.args.parts c.requires.0
    c.requires.1 in (
      law.part_written c.args.sheet.now c.args.n c.args.part c.args.parts c.requires.0 w.0 w.2
          c.kind_of.ensures c.view_of.ensures c.put_operand.new.t c.put_operand.ensures.0,
      subst (λ (x : View). WordOperand (operand_in x)) c.view_of.ensures c.put_operand.ensures.1,
    )
