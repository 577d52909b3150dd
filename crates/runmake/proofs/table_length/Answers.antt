use Rattle.std.proofs.Common.{arith}
use Rattle.runmake.proofs.Lengths.{few_marks, length_read, length_refused}
use Rattle.runmake.proofs.table_length.Goals as goal

pub overflow_add-result : goal.overflow_add-result
overflow_add-result c = let few = few_marks c.args.rule.now c.args.plan.now c.in-Ok.ensures.2 in omega arith

pub overflow_mul-result : goal.overflow_mul-result
overflow_mul-result c = let few = few_marks c.args.rule.now c.args.plan.now c.in-Ok.ensures.2 in omega arith

pub overflow_add-result-in-Ok : goal.overflow_add-result-in-Ok
overflow_add-result-in-Ok c = let few = few_marks c.args.rule.now c.args.plan.now c.in-Ok.ensures.2 in omega arith

pub overflow_mul-result-in-Ok : goal.overflow_mul-result-in-Ok
overflow_mul-result-in-Ok c = let few = few_marks c.args.rule.now c.args.plan.now c.in-Ok.ensures.2 in omega arith

pub overflow_add-result-in-Ok-2 : goal.overflow_add-result-in-Ok-2
overflow_add-result-in-Ok-2 c = let few = few_marks c.args.rule.now c.args.plan.now c.in-Ok.ensures.2 in omega arith

pub returns-in-Ok : goal.returns-in-Ok
returns-in-Ok c = length_read c.args.rule.now c.args.plan.now c.in-Ok.ensures.2

pub returns-in-Err : goal.returns-in-Err
returns-in-Err c = length_refused c.args.rule.now c.args.plan.now c.in-Err.ensures
