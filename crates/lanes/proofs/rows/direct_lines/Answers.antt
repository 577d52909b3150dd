-- `lanes::rows::direct_lines` meets its contract. Assumes nothing.
use Rattle.lanes.proofs.Stretches as law
use Rattle.lanes.proofs.rows.direct_lines.Goals as goal

pub returns-then-to-from : goal.returns-then-to-from
returns-then-to-from c = law.none_swept _ _ _ c.if-to-from.true

pub invariant_of-lines : goal.invariant_of-lines
invariant_of-lines c = record { in_drifts = law.in_drifts c.requires.0 c.if-to-from.false c.stretch_of-stretch.ensures (c.requires.2 c.if-to-from.false) }

pub under_agree-requires : goal.under_agree-requires
under_agree-requires c = law.tops_small c.requires.0 c.if-to-from.false c.stretch_of-stretch.ensures

pub returns : goal.returns
returns c = law.lines_said c.requires.0 c.if-to-from.false c.stretch_of-stretch.ensures c.args.drifts.now c.under_agree.ensures
