-- `verdict::tops::decide_free` meets its contract. Assumes nothing.
use mathlib.Core.Path.{ap₂, ◌∙◌}
use Rattle.verdict.specs.Stretches.{common}
use Rattle.verdict.proofs.UnderTops.{free_always, free_some}
use Rattle.verdict.proofs.tops.decide_free.Goals as goal

pub returns-then-is_all : goal.returns-then-is_all
returns-then-is_all c =
    let free = c.meet-p.ensures ∙ ap₂ common c.passes_free.ensures c.passes_free-2.ensures in
    free_always c.args.relation _ _ _ _ free c.is_all.ensures c.if-is_all.true c.decide.ensures

pub returns : goal.returns
returns c =
    let free = c.meet-p.ensures ∙ ap₂ common c.passes_free.ensures c.passes_free-2.ensures in
    free_some c.args.relation _ _ _ _ free c.is_all.ensures c.if-is_all.false c.some_on.ensures c.decide_some.ensures
