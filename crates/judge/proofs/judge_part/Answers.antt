use native.Mathlib.Omega.{arith}
use Rattle.std.proofs.Common.{rules}
use Rattle.judge.proofs.Entry as law
use Rattle.judge.proofs.judge_part.Goals as goal

pub returns-in_err-found : goal.returns-in_err-found
returns-in_err-found c = let e = law.part_absent _ _ _ c.args.row c.args.inputs.now.ready c.take.ensures.is_take c.in_err-found.was in search rules

pub returns-then-sizes-row : goal.returns-then-sizes-row
returns-then-sizes-row c = law.row_absent _ _ _ _ c.args.inputs.now.ready c.take.ensures.is_take c.in_ok-found.was c.if-sizes-row.true

pub judge_row-requires : goal.judge_row-requires
judge_row-requires c = (law.atom_there _ _ _ _ c.args.inputs.now.ready c.take.ensures.is_take c.in_ok-found.was c.if-sizes-row.false c.view_of.ensures c.in-Atom.is, omega (arith, c.if-sizes-row.false, c.args.inputs.now.ready.fits.a_cycle))

pub returns-in-Atom : goal.returns-in-Atom
returns-in-Atom c = law.judged_atom _ _ _ _ c.args.inputs.now.ready c.take.ensures.is_take c.in_ok-found.was c.if-sizes-row.false c.view_of.ensures c.in-Atom.is c.judge_row.ensures.answer

pub returns-in-Operator : goal.returns-in-Operator
returns-in-Operator c = law.no_atom _ _ _ _ c.args.inputs.now.ready c.take.ensures.is_take c.in_ok-found.was c.if-sizes-row.false c.view_of.ensures c.in-Operator.is
