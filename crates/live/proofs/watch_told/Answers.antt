use mathlib.Core.Path.{refl}
use Rattle.live.proofs.CallLaws as law
use Rattle.live.proofs.watch_told.Goals as goal

pub returns-then-not-is_held : goal.returns-then-not-is_held
returns-then-not-is_held c = law.told_empty c.args.w.now (c.is_held.ensures.0 _ refl) c.if-not-is_held.true

pub returns-then-w-eq0 : goal.returns-then-w-eq0
returns-then-w-eq0 c = law.told_not_yet c.args.w.now (c.is_held.ensures.0 _ refl) c.if-not-is_held.false c.if-w-eq0.true

pub returns : goal.returns
returns c = law.told_truth c.args.w.now (c.is_held.ensures.0 _ refl) c.if-not-is_held.false c.if-w-eq0.false
