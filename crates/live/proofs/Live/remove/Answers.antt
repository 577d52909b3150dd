use mathlib.Core.Path.{refl}
use Rattle.live.specs.State.{after_drop, with_place}
use Rattle.live.proofs.CallLaws as law
use native.Mathlib.Omega.{arith}
use Rattle.live.proofs.Live.remove.Goals as goal

pub returns-then-place-ge-PLACES : goal.returns-then-place-ge-PLACES
returns-then-place-ge-PLACES c = law.drop_above c.args.self.now c.args.place c.if-place-ge-PLACES.true

pub returns-then-not-is_held : goal.returns-then-not-is_held
returns-then-not-is_held c = law.drop_empty c.args.self.now c.args.place _ (omega arith) c.if-place-ge-PLACES.false (c.is_held.ensures.0 _ refl) c.if-not-is_held.true

pub returns : goal.returns
unfolding after_drop with_place
returns c = law.drop_done c.args.self.now c.args.place _ (omega arith) c.if-place-ge-PLACES.false (c.is_held.ensures.0 _ refl) c.if-not-is_held.false
