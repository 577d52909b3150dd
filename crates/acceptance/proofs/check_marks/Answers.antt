use Rattle.std.proofs.Common.{rules}
use mathlib.Core.Path.{refl}
use native.Mathlib.Omega.{arith}
use Rattle.inputs.proofs.Parts.{few_there, last_there}
use Rattle.acceptance.proofs.Entry as law
use Rattle.acceptance.proofs.check_marks.Goals as goal

pub check_table-requires : goal.check_table-requires
check_table-requires c = few_there _ _ c.args.inputs.now.ready

pub returns-in_err-check_table : goal.returns-in_err-check_table
returns-in_err-check_table c = let e = law.table_refused _ _ _ c.args.inputs.now.ready c.check_table.ensures c.in_err-check_table.was in search rules

pub check_laid-requires : goal.check_laid-requires
check_laid-requires c = (law.prepared _ _ _ c.args.inputs.now.ready c.check_table.ensures c.in_ok-check_table.was, refl)

pub returns-in_err-check_laid : goal.returns-in_err-check_laid
returns-in_err-check_laid c = let e = law.parts_refused _ _ _ c.args.inputs.now.ready c.check_table.ensures c.in_ok-check_table.was c.check_laid.ensures c.in_err-check_laid.was in search rules

pub overflow_sub-inputs : goal.overflow_sub-inputs
overflow_sub-inputs c = omega (arith, last_there _ _ c.args.inputs.now.ready)

pub mark_at-requires : goal.mark_at-requires
mark_at-requires c =
    let there = last_there _ _ c.args.inputs.now.ready in
    let prepared = law.prepared _ _ _ c.args.inputs.now.ready c.check_table.ensures c.in_ok-check_table.was in
    (prepared.sized, omega arith, omega arith)

pub returns : goal.returns
returns c = law.all_accepted _ _ _ c.args.inputs.now.ready c.check_table.ensures c.in_ok-check_table.was c.check_laid.ensures c.in_ok-check_laid.was c.mark_at.ensures
