use native.Mathlib.Omega.{arith}
use borrow.Author.Rules.{sfits_of}
use mir.Syntax.{w32}
use mir.ValLaws.{to_z-of_z, to_z_pos}
use Rattle.rule.specs.Terms.{shift_of}
use Rattle.rule.proofs.Shifts.{mag_sub}
use Rattle.rule.proofs.terms.shift_of.Goals as goal

pub returns : goal.returns
unfolding shift_of
returns c =
    let small = to_z_pos w32 c.args.code (omega arith) in
    rw small (to_z-of_z w32 _ (sfits_of (mag_sub c.args.code 4 2147483648 (omega arith) (omega arith))))
