use mathlib.Core.Path.{◌∙◌}
use Rattle.live.proofs.TruthLaws.{byte_from, none_within, number_within}
use Rattle.live.proofs.truths.within.Goals as goal

-- src/truths.rt:80:9
pub returns-then-x-ge-PINNED : goal.returns-then-x-ge-PINNED
returns-then-x-ge-PINNED c = none_within _ _ _ c.if-x-ge-PINNED.true

-- src/truths.rt:76:1
pub returns : goal.returns
returns c = number_within _ _ _ c.if-x-ge-PINNED.false c.in_window.ensures (c.from.ensures ∙ byte_from _)
