-- `labelling::guesses::guess_comparison` meets its contract. Assumes nothing.
use native.Mathlib.Omega.{arith}
use Rattle.verdict.proofs.Values.{farther_reach, farther_le}
use Rattle.lanes.proofs.AllRows as law
use Rattle.lanes.specs.declared.rows.Sides.{Sides}
use Rattle.labelling.proofs.Guessing.{as_long}
use Rattle.labelling.proofs.guesses.guess_comparison.Goals as goal

pub ranges_of-ranges-requires : goal.ranges_of-ranges-requires
ranges_of-ranges-requires c =
    let farther = farther_reach c.args.part.comparison c.max-back.ensures c.reach_of.ensures c.reach_of-2.ensures in
    let few_back = farther_le c.args.part.sizes c.args.part.comparison _ farther c.requires.4 in
    (c.requires.0.few_rows, few_back, omega (arith, c.max.ensures, c.side_of-left.ensures.few, c.side_of-right.ensures.few))

pub guess_direct-requires : goal.guess_direct-requires
guess_direct-requires c =
    let farther = farther_reach c.args.part.comparison c.max-back.ensures c.reach_of.ensures c.reach_of-2.ensures in
    let sides : Sides = record { left = c.side_of-left.result; right = c.side_of-right.result } in
    let ranged = law.ranged c.args.plan.now _ c.args.part sides c.requires.0 (as_long c.guess_rows.ensures c.requires.2) c.requires.3 c.requires.4 c.requires.5 c.side_of-left.ensures c.side_of-right.ensures farther c.max.ensures c.ranges_of-ranges.ensures in
    (law.numbers_stretch ranged, c.requires.1)
