-- `verdict::tops::some_within` meets its contract. Assumes nothing.
use native.Mathlib.Omega.{arith}
use Rattle.verdict.proofs.SomePasses.{small_turn, none_within, walk_found}
use Rattle.verdict.proofs.tops.some_within.Goals as goal

pub returns-then-n-eq0 : goal.returns-then-n-eq0
returns-then-n-eq0 c = none_within _ _ _ c.args.first c.args.passes c.if-n-eq0.true

pub overflow_mul-at : goal.overflow_mul-at
overflow_mul-at c = omega (arith, small_turn c.args.first _ c.minutes_after-step.ensures)

pub overflow_add-at : goal.overflow_add-at
overflow_add-at c =
    let after = (small_turn 0 _ c.minutes_after.ensures).1 in
    omega (arith, small_turn c.args.first _ c.minutes_after-step.ensures)

pub enters-requires : goal.enters-requires
enters-requires c =
    let step = (small_turn 0 _ c.minutes_after-step.ensures).1 in
    (record { at = omega arith; step = omega arith; lap = omega arith; passes = omega arith }, omega arith)

pub returns : goal.returns
returns c =
    let x = c.args.x in
    let y = c.args.y in
    walk_found c.args.n _ _ x.at x.step y.at y.step c.args.first c.args.passes c.minutes_after-step.ensures c.minutes_after.ensures c.enters.ensures
