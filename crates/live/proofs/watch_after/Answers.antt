use mathlib.Core.Path.{refl}
use Rattle.live.proofs.CallLaws as law
use Rattle.live.proofs.watch_after.Goals as goal

-- src/lib.rt:86:9
pub returns-then-not-is_held : goal.returns-then-not-is_held
returns-then-not-is_held c = law.not_held c.args.readings.now c.args.rule.now c.args.w (c.is_held.ensures.0 _ refl) c.if-not-is_held.true

-- src/lib.rt:80:1
pub returns : goal.returns
returns c = law.row_held c.args.readings.now c.args.rule.now c.args.w (c.is_held.ensures.0 _ refl) c.if-not-is_held.false c.one_older-age.ensures.0 c.truths_of-truths.ensures
