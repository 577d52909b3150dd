use Rattle.live.proofs.CallLaws as law
use native.Mathlib.Omega.{arith}
use Rattle.live.proofs.Live.answer.Goals as goal

pub returns-then-place-ge-PLACES : goal.returns-then-place-ge-PLACES
returns-then-place-ge-PLACES c = law.answer_above c.args.self.now c.args.place c.if-place-ge-PLACES.true

pub returns : goal.returns
returns c = law.answer_in c.args.self.now c.args.place _ (omega arith) c.if-place-ge-PLACES.false c.watch_told.ensures
