-- `settling::operators::try_one` meets its contract. Assumes nothing.
use mathlib.Core.Path.{◌≡◌, ap, ◌∙◌}
use mathlib.Core.Bool.{not}
use Rattle.std.proofs.Common.{rules}
use Rattle.words.specs.inner.Words.{mark_at}
use Rattle.settling.proofs.Copying.{not_tried, next_tried, yesterday_tried, weak_tried}
use Rattle.settling.proofs.operators.try_one.Goals as goal

pub returns-in-Not : goal.returns-in-Not
returns-in-Not c =
    let marked = c.put_each.ensures (λ row. not (mark_at c.args.scratch.now c.args.a row)) (λ s row x same l h.
    let here : x ≡ not (mark_at s.now c.args.a row) = search rules in here ∙ ap not (same c.args.a c.requires.2 row)) in
    not_tried c.args.laid.start c.args.laid.cycle c.requires.3 c.args.scratch.now c.args.a c.in-Not.is marked

pub returns-in-Next : goal.returns-in-Next
returns-in-Next c = next_tried c.args.laid.start c.args.laid.cycle c.requires.3 c.args.scratch.now c.args.a c.in-Next.is c.mark_next.ensures

pub returns-in-Yesterday : goal.returns-in-Yesterday
returns-in-Yesterday c = yesterday_tried c.args.laid.start c.args.laid.cycle c.args.scratch.now c.args.a c.in-Yesterday.is c.try_before.ensures

pub returns-in-WeakYesterday : goal.returns-in-WeakYesterday
returns-in-WeakYesterday c = weak_tried c.args.laid.start c.args.laid.cycle c.args.scratch.now c.args.a c.in-WeakYesterday.is c.try_before-in-WeakYesterday.ensures
