-- `lanes::rows::verdicts_agree` meets its contract. Assumes nothing.
use Prim.Native.Nat.{◌+◌}
use native.Mathlib.Omega.{arith}
use Rattle.verdict.proofs.Values.{farther_reach, farther_le, farther_in}
use Rattle.lanes.proofs.AllRows as law
use Rattle.lanes.specs.declared.rows.Sides.{Sides}
use Rattle.lanes.proofs.rows.verdicts_agree.Goals as goal

pub ranges_of-ranges-requires : goal.ranges_of-ranges-requires
ranges_of-ranges-requires c =
    let farther = farther_reach c.args.part.comparison c.max-back.ensures c.reach_of.ensures c.reach_of-2.ensures in
    let few_back = farther_le c.args.part.sizes c.args.part.comparison _ farther c.requires.4 in
    (c.requires.0.few_rows, few_back, omega (arith, c.max.ensures, c.side_of-left.ensures.few, c.side_of-right.ensures.few))

pub direct_numbers-numbers-requires : goal.direct_numbers-numbers-requires
direct_numbers-numbers-requires c =
    let farther = farther_reach c.args.part.comparison c.max-back.ensures c.reach_of.ensures c.reach_of-2.ensures in
    let sides : Sides = record { left = c.side_of-left.result; right = c.side_of-right.result } in
    let ranged = law.ranged c.args.plan.now c.args.table.now c.args.part sides c.requires.0 c.requires.2 c.requires.3 c.requires.4 c.requires.5 c.side_of-left.ensures c.side_of-right.ensures farther c.max.ensures c.ranges_of-ranges.ensures in
    (law.numbers_stretch ranged, law.long_lanes c.args.part.sizes c.requires.1.readings_laid)

pub still_one_by_one-later-requires : goal.still_one_by_one-later-requires
still_one_by_one-later-requires c =
    let farther = farther_reach c.args.part.comparison c.max-back.ensures c.reach_of.ensures c.reach_of-2.ensures in
    let few_back = farther_le c.args.part.sizes c.args.part.comparison _ farther c.requires.4 in
    let sides : Sides = record { left = c.side_of-left.result; right = c.side_of-right.result } in
    let ranged = law.ranged c.args.plan.now c.args.table.now c.args.part sides c.requires.0 c.requires.2 c.requires.3 c.requires.4 c.requires.5 c.side_of-left.ensures c.side_of-right.ensures farther c.max.ensures c.ranges_of-ranges.ensures in
    (law.later_positions ranged c.if-back-ranges.true (omega arith, omega (arith, few_back)), law.long_lanes c.args.part.sizes c.requires.1.readings_laid)

pub returns-then-back-ranges : goal.returns-then-back-ranges
returns-then-back-ranges c =
    let farther = farther_reach c.args.part.comparison c.max-back.ensures c.reach_of.ensures c.reach_of-2.ensures in
    let sides : Sides = record { left = c.side_of-left.result; right = c.side_of-right.result } in
    let ranged = law.ranged c.args.plan.now c.args.table.now c.args.part sides c.requires.0 c.requires.2 c.requires.3 c.requires.4 c.requires.5 c.side_of-left.ensures c.side_of-right.ensures farther c.max.ensures c.ranges_of-ranges.ensures in
    law.still_swept ranged c.requires.1 _ c.place.ensures c.none_marked-before.ensures c.direct_numbers-numbers.ensures
    c.if-still.true c.if-back-ranges.true c.still_one_by_one-later.ensures

pub direct_lines-lines-requires : goal.direct_lines-lines-requires
direct_lines-lines-requires c =
    let farther = farther_reach c.args.part.comparison c.max-back.ensures c.reach_of.ensures c.reach_of-2.ensures in
    let sides : Sides = record { left = c.side_of-left.result; right = c.side_of-right.result } in
    let ranged = law.ranged c.args.plan.now c.args.table.now c.args.part sides c.requires.0 c.requires.2 c.requires.3 c.requires.4 c.requires.5 c.side_of-left.ensures c.side_of-right.ensures farther c.max.ensures c.ranges_of-ranges.ensures in
    (law.lines_stretch ranged, law.long_lanes c.args.part.sizes c.requires.1.readings_laid, law.lines_lanes ranged c.requires.1)

pub overflow_add-sizes : goal.overflow_add-sizes
overflow_add-sizes c =
    let farther = farther_reach c.args.part.comparison c.max-back.ensures c.reach_of.ensures c.reach_of-2.ensures in
    let few_back = farther_le c.args.part.sizes c.args.part.comparison _ farther c.requires.4 in
    omega (arith, c.requires.0.few_rows, few_back)

pub overflow_add-w-2 : goal.overflow_add-w-2
overflow_add-w-2 c =
    let farther = farther_reach c.args.part.comparison c.max-back.ensures c.reach_of.ensures c.reach_of-2.ensures in
    let few_back = farther_le c.args.part.sizes c.args.part.comparison _ farther c.requires.4 in
    omega (arith, c.requires.0.few_rows, few_back)

pub one_by_one-others-requires : goal.one_by_one-others-requires
one_by_one-others-requires c =
    let farther = farther_reach c.args.part.comparison c.max-back.ensures c.reach_of.ensures c.reach_of-2.ensures in
    let few_back = farther_le c.args.part.sizes c.args.part.comparison _ farther c.requires.4 in
    let inside = farther_in c.args.part.sizes c.args.part.comparison _ farther (c.args.part.sizes.start + c.max-back.result) (omega arith) in
    let order = c.ranges_of-ranges.ensures.in_order in
    (c.requires.0, c.requires.2, c.requires.3, c.requires.4, inside.0, inside.1, omega arith, omega (arith, few_back))

pub returns : goal.returns
returns c =
    let farther = farther_reach c.args.part.comparison c.max-back.ensures c.reach_of.ensures c.reach_of-2.ensures in
    let sides : Sides = record { left = c.side_of-left.result; right = c.side_of-right.result } in
    let ranged = law.ranged c.args.plan.now c.args.table.now c.args.part sides c.requires.0 c.requires.2 c.requires.3 c.requires.4 c.requires.5 c.side_of-left.ensures c.side_of-right.ensures farther c.max.ensures c.ranges_of-ranges.ensures in
    law.all_swept ranged c.requires.1 _ c.place.ensures c.none_marked-before.ensures c.direct_numbers-numbers.ensures
    c.direct_lines-lines.ensures c.one_by_one-others.ensures
