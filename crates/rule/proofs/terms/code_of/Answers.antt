use mathlib.Core.Path.{◌≡◌, ap, ◌∙◌}
use native.Mathlib.Omega.{arith}
use borrow.Author.Rules.{sfits_of}
use lib.IntN.{ℤ, pos, ◌+ℤ◌, nat_abs}
use mir.Syntax.{w32}
use mir.Val.{to_z, of_z}
use mir.ValLaws.{to_z-of_z}
use Rattle.rule.specs.Terms.{code_of}
use Rattle.rule.proofs.Shifts.{coded}
use Rattle.rule.proofs.terms.code_of.Goals as goal

pub overflow_add-result : goal.overflow_add-result
overflow_add-result c =
    let code = coded c.args.shift c.requires in
    rw (ap (λ (z : ℤ). z +ℤ pos 4) (to_z-of_z w32 c.args.shift c.ranges.shift) ∙ code.sum) (sfits_of (omega (arith, code.small)))

pub overflow_cast-result : goal.overflow_cast-result
overflow_cast-result c =
    let code = coded c.args.shift c.requires in
    let plus : to_z w32 (of_z w32 c.args.shift) +ℤ pos 4 ≡ pos (code_of c.args.shift) = ap (λ (z : ℤ). z +ℤ pos 4) (to_z-of_z w32 c.args.shift c.ranges.shift) ∙ code.sum in
    rw (to_z-of_z w32 _ (rw plus (sfits_of (omega (arith, code.small)))) ∙ plus) (tt, record { fits = omega (arith, code.small) })

pub returns : goal.returns
returns c =
    let code = coded c.args.shift c.requires in
    let plus : to_z w32 (of_z w32 c.args.shift) +ℤ pos 4 ≡ pos (code_of c.args.shift) = ap (λ (z : ℤ). z +ℤ pos 4) (to_z-of_z w32 c.args.shift c.ranges.shift) ∙ code.sum in
    ap nat_abs (to_z-of_z w32 _ (rw plus (sfits_of (omega (arith, code.small)))) ∙ plus)
