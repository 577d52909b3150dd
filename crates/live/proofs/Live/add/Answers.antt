use mathlib.Core.Path.{refl}
use Rattle.std.proofs.Common.{rules}
use Rattle.live.specs.State.{with_place}
use Rattle.live.proofs.CallLaws as law
use native.Mathlib.Omega.{arith}
use Rattle.live.proofs.Live.add.Goals as goal

pub returns-in_err-sizes : goal.returns-in_err-sizes
returns-in_err-sizes c = let e = law.add_refused c.args.self.now c.args.place c.args.sheet.now c.read_rule.ensures c.in_err-sizes.was in search rules

pub returns-then-place-ge-PLACES : goal.returns-then-place-ge-PLACES
returns-then-place-ge-PLACES c = law.add_above c.args.self.now c.args.place c.args.sheet.now c.read_rule.ensures c.in_ok-sizes.was c.if-place-ge-PLACES.true

pub returns-then-is_held : goal.returns-then-is_held
returns-then-is_held c =
    law.add_taken c.args.self.now c.args.place c.args.sheet.now c.read_rule.ensures c.in_ok-sizes.was _ (omega arith) c.if-place-ge-PLACES.false
    (c.is_held.ensures.0 _ refl) c.if-is_held.true

pub copy_rule-requires : goal.copy_rule-requires
copy_rule-requires c = (c.if-place-ge-PLACES.false, law.add_short c.args.self.now c.args.place c.args.sheet.now c.read_rule.ensures c.in_ok-sizes.was)

pub returns : goal.returns
unfolding with_place
returns c =
    law.add_done c.args.self.now c.args.place c.args.sheet.now c.read_rule.ensures c.in_ok-sizes.was _ (omega arith) c.if-place-ge-PLACES.false
    (c.is_held.ensures.0 _ refl) c.if-is_held.false
    c.copy_rule.ensures
