-- `verdict::terms::seen_on_landing` meets its contract. Assumes nothing.
use native.Mathlib.Omega.{arith}
use Rattle.verdict.proofs.Landed.{landing_reached, seen_landed}
use Rattle.verdict.proofs.terms.seen_on_landing.Goals as goal

pub overflow_add-k : goal.overflow_add-k
overflow_add-k c = omega (arith, landing_reached c.args.plan.now.fits c.args.landing c.args.ahead c.args.k c.requires.2 c.if-ahead-plan.false c.requires.1)

pub overflow_sub-k : goal.overflow_sub-k
overflow_sub-k c = omega (arith, landing_reached c.args.plan.now.fits c.args.landing c.args.ahead c.args.k c.requires.2 c.if-ahead-plan.false c.requires.1)

pub number_at-requires : goal.number_at-requires
number_at-requires c =
    let there = landing_reached c.args.plan.now.fits c.args.landing c.args.ahead c.args.k c.requires.2 c.if-ahead-plan.false c.requires.1 in
    (c.requires.0, there.0, omega (arith, there.1, there.2))

pub returns : goal.returns
returns c = seen_landed c.args.plan.now.fits _ c.args.landing c.args.ahead c.args.k c.top_of.result c.number_at.result c.requires.2 c.if-ahead-plan.false c.top_of.ensures.0 c.number_at.ensures.0 c.seen_under.ensures.0
