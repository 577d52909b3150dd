-- `settling::operators::mark_ahead` meets its contract. Assumes nothing.
use Rattle.settling.proofs.Stepping as law
use Rattle.settling.proofs.operators.mark_ahead.Goals as goal

pub seen_round-end-requires : goal.seen_round-end-requires
seen_round-end-requires c = (c.requires.0, law.names_few c.args.operator c.requires.1 c.requires.2, c.requires.4, c.requires.5)

pub mark_back-requires : goal.mark_back-requires
mark_back-requires c = (c.requires.0, c.requires.1, c.requires.2, c.requires.4, c.requires.5, law.seen_round _ _ _ _ c.seen_round-end.ensures)

pub returns : goal.returns
returns c = law.ahead_marked _ _ _ _ _ c.requires.3 c.mark_back.ensures
