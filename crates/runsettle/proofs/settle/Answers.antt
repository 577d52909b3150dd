use Rattle.std.proofs.Common.{arith, length-take}
use Rattle.runsettle.proofs.Front.{within, has_head}
use Rattle.runsettle.proofs.settle.Goals as goal

pub plan_length-n-requires : goal.plan_length-n-requires
plan_length-n-requires g c =
    let told = c.endless_run_settle-answer.ensures in
    has_head _ _ _ (told.clears c.if-answer-lt256.true) (told.front c.if-answer-lt256.true)

pub slice_bounds-report-end : goal.slice_bounds-report-end
slice_bounds-report-end g c =
    let told = c.endless_run_settle-answer.ensures in
    within _ _ _ (told.clears c.if-answer-lt256.true) (told.front c.if-answer-lt256.true) c.plan_length-n.ensures

pub slice_bounds-report-end-then-answer-lt256 : goal.slice_bounds-report-end-then-answer-lt256
slice_bounds-report-end-then-answer-lt256 g c =
    let told = c.endless_run_settle-answer.ensures in
    let inside = within _ _ _ (told.clears c.if-answer-lt256.true) (told.front c.if-answer-lt256.true) c.plan_length-n.ensures in
    simp length-take (omega arith)
