-- `verdict::rows::cycle_landed` meets its contract. Assumes nothing.
use native.Mathlib.Nat.{mul-le-mul_right}
use native.Mathlib.Omega.{arith}
use mathlib.Core.Path.{◌∙◌}
use Rattle.std.proofs.Common.{rules}
use Rattle.verdict.proofs.Values.{farther_reach, farther_le, farther_in, cycle_is, passes_joined}
use Rattle.verdict.proofs.Landed.{both_reached, judged_landed}
use Rattle.verdict.proofs.rows.cycle_landed.Goals as goal

pub early_passes-n-requires : goal.early_passes-n-requires
early_passes-n-requires g c =
    let farther = farther_reach c.args.comparison c.max.ensures c.reach_of.ensures c.reach_of-2.ensures in
    (c.args.plan.now.fits.a_cycle, c.args.plan.now.fits.few_rows, c.requires.1, c.requires.2, farther_le c.args.plan.now.sizes c.args.comparison _ farther c.requires.0)

pub judge_landed-later-requires : goal.judge_landed-later-requires
judge_landed-later-requires g c =
    let farther = farther_reach c.args.comparison c.max.ensures c.reach_of.ensures c.reach_of-2.ensures in
    let inside = farther_in c.args.plan.now.sizes c.args.comparison _ farther _ c.early_passes-n.ensures.0 in
    let there = both_reached c.args.plan.now.fits c.args.row c.requires.1 c.args.comparison _ _ c.landings_of-landings.ensures c.early_passes-n.result inside (omega (arith, mul-le-mul_right c.args.plan.now.sizes.cycle c.early_passes-n.ensures.1)) in
    (c.requires.0, there.0, there.1, c.requires.3)

pub returns : goal.returns
returns g c =
    let farther = farther_reach c.args.comparison c.max.ensures c.reach_of.ensures c.reach_of-2.ensures in
    let inside = farther_in c.args.plan.now.sizes c.args.comparison _ farther _ c.early_passes-n.ensures.0 in
    cycle_is c.args.plan.now.fits c.args.comparison c.requires.0 _ _ c.requires.1 inside _
    (c.judge_landed-later.ensures ∙ judged_landed c.args.plan.now.fits c.args.row c.requires.1 c.args.comparison _ _ c.landings_of-landings.ensures _ inside)
    (passes_joined c.args.plan.now.fits c.args.comparison c.args.row _ _ (c.join_first.ensures _ (search rules)))
