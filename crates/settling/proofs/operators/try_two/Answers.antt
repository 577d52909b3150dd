-- `settling::operators::try_two` meets its contract. Assumes nothing.
use mathlib.Core.Path.{◌≡◌, ap, ap₂, ◌∙◌}
use mathlib.Core.Bool.{◌&&◌, ◌||◌}
use Rattle.std.proofs.Common.{rules}
use Rattle.words.specs.inner.Words.{mark_at}
use Rattle.marks.specs.Equations.{beside_two}
use Rattle.settling.proofs.Stepping.{ahead_tried}
use Rattle.settling.proofs.Copying.{and_tried, or_tried, names_two}
use Rattle.settling.proofs.operators.try_two.Goals as goal

pub mark_ahead-requires : goal.mark_ahead-requires
mark_ahead-requires c = (c.requires.0, c.requires.1, names_two _ c.requires.2 c.requires.3, ap beside_two c.in-Until.is, c.requires.4, c.requires.5)

pub mark_ahead-requires-in-Release : goal.mark_ahead-requires-in-Release
mark_ahead-requires-in-Release c = (c.requires.0, c.requires.1, names_two _ c.requires.2 c.requires.3, ap beside_two c.in-Release.is, c.requires.4, c.requires.5)

pub try_back-requires : goal.try_back-requires
try_back-requires c = (c.requires.0, c.requires.1, names_two _ c.requires.2 c.requires.3, ap beside_two c.in-Since.is, c.requires.4, c.requires.5)

pub try_back-requires-in-Trigger : goal.try_back-requires-in-Trigger
try_back-requires-in-Trigger c = (c.requires.0, c.requires.1, names_two _ c.requires.2 c.requires.3, ap beside_two c.in-Trigger.is, c.requires.4, c.requires.5)

pub returns-in-And : goal.returns-in-And
returns-in-And c =
    let marked = c.put_each.ensures (λ row. mark_at c.args.scratch.now c.args.a row && mark_at c.args.scratch.now c.args.b row) (λ s row x same l h.
    let here : x ≡ (mark_at s.now c.args.a row && mark_at s.now c.args.b row) = search rules in
    here ∙ ap₂ ◌&&◌ (same c.args.a c.requires.2 row) (same c.args.b c.requires.3 row)) in
    and_tried c.args.laid.start c.args.laid.cycle c.requires.4 c.args.scratch.now c.args.a c.args.b c.in-And.is marked

pub returns-in-Or : goal.returns-in-Or
returns-in-Or c =
    let marked = c.put_each-in-Or.ensures (λ row. mark_at c.args.scratch.now c.args.a row || mark_at c.args.scratch.now c.args.b row) (λ s row x same l h.
    let here : x ≡ (mark_at s.now c.args.a row || mark_at s.now c.args.b row) = search rules in
    here ∙ ap₂ ◌||◌ (same c.args.a c.requires.2 row) (same c.args.b c.requires.3 row)) in
    or_tried c.args.laid.start c.args.laid.cycle c.requires.4 c.args.scratch.now c.args.a c.args.b c.in-Or.is marked

pub returns-in-Until : goal.returns-in-Until
returns-in-Until c = ahead_tried _ _ _ _ _ (ap beside_two c.in-Until.is) c.mark_ahead.ensures

pub returns-in-Release : goal.returns-in-Release
returns-in-Release c = ahead_tried _ _ _ _ _ (ap beside_two c.in-Release.is) c.mark_ahead-in-Release.ensures
