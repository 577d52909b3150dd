-- `lanes::rows::direct_numbers` meets its contract. Assumes nothing.
use Rattle.lanes.proofs.Stretches as law
use Rattle.lanes.proofs.rows.direct_numbers.Goals as goal

pub returns-then-to-from : goal.returns-then-to-from
returns-then-to-from c = law.none_swept _ _ _ c.if-to-from.true

pub seen_agree-requires : goal.seen_agree-requires
seen_agree-requires c = law.tops_small c.requires.0 c.if-to-from.false c.stretch_of-stretch.ensures

pub returns : goal.returns
returns c = law.numbers_said c.requires.0 c.if-to-from.false c.stretch_of-stretch.ensures c.seen_agree.ensures
