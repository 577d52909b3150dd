-- `verdict::rows::judge_from` meets its contract. Assumes nothing.
use mathlib.Core.Path.{◌∙◌}
use mathlib.Core.Bool.{false≢true}
use Rattle.verdict.proofs.Landed.{from_reached, judged_from}
use Rattle.verdict.proofs.rows.judge_from.Goals as goal

pub judge_landed-requires : goal.judge_landed-requires
judge_landed-requires c =
    let there = from_reached c.args.plan.now.fits c.args.t c.args.comparison _ _ c.landings_of-landings.ensures (c.requires.1, c.requires.2) c.requires.3 in
    (c.requires.0, there.0, there.1, λ _. c.without_tops.ensures c.if-without_tops.true)

pub judge_landed-requires-2 : goal.judge_landed-requires-2
judge_landed-requires-2 c =
    let there = from_reached c.args.plan.now.fits c.args.t c.args.comparison _ _ c.landings_of-landings.ensures (c.requires.1, c.requires.2) c.requires.3 in
    (c.requires.0, there.0, there.1, λ e. absurd (false≢true e))

pub returns-then-without_tops : goal.returns-then-without_tops
returns-then-without_tops c = c.judge_landed.ensures ∙ judged_from c.args.plan.now.fits c.args.t c.args.comparison _ _ c.landings_of-landings.ensures (c.requires.1, c.requires.2)

pub returns : goal.returns
returns c = c.judge_landed-2.ensures ∙ judged_from c.args.plan.now.fits c.args.t c.args.comparison _ _ c.landings_of-landings.ensures (c.requires.1, c.requires.2)
