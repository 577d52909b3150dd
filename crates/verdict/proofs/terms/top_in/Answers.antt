-- `verdict::terms::top_in` meets its contract. Assumes nothing.
use Rattle.verdict.proofs.Values.{reading_fits}
use Rattle.verdict.proofs.terms.top_in.Goals as goal

pub top_of-requires : goal.top_of-requires
top_of-requires c = (reading_fits _ _ _ c.in-Reading.is _ c.requires).0
