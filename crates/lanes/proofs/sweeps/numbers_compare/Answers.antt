-- `lanes::sweeps::numbers_compare` meets its contract. Assumes nothing.
use Rattle.lanes.proofs.Comparing.{compare_within}
use Rattle.lanes.proofs.sweeps.numbers_compare.Goals as goal

pub returns-in-Within : goal.returns-in-Within
returns-in-Within c = compare_within c.args.a c.args.b c.in-Within.is c.minutes_after.ensures
