-- `lanes::sweeps::same_stays` meets its contract. Assumes nothing.
use native.Mathlib.Omega.{arith}
use Rattle.lanes.proofs.Comparing as law
use Rattle.lanes.proofs.sweeps.same_stays.Goals as goal

pub returns-then-d-e : goal.returns-then-d-e
returns-then-d-e c = law.stays_steady c.args.a c.args.d c.args.b c.args.e c.if-d-e.true

pub returns-then-e-d : goal.returns-then-e-d
returns-then-e-d c = law.stays_stepped_over c.args.a c.args.d c.args.b c.args.e c.if-a-b.true c.if-e-d.true

pub returns-then-a-b : goal.returns-then-a-b
returns-then-a-b c = law.stays_never_met c.args.a c.args.d c.args.b c.args.e c.if-a-b.true c.if-e-d.false

pub returns-then-d-e-2 : goal.returns-then-d-e-2
returns-then-d-e-2 c = law.stays_stepped_over_above c.args.a c.args.d c.args.b c.args.e c.if-b-a.true c.if-d-e-2.true

pub returns-then-b-a : goal.returns-then-b-a
returns-then-b-a c = law.stays_never_met_above c.args.a c.args.d c.args.b c.args.e c.if-b-a.true c.if-d-e-2.false

pub returns : goal.returns
returns c = law.stays_once c.args.a c.args.d c.args.b c.args.e (omega arith) c.if-d-e.false
