-- `lanes::columns::side_of` meets its contract. Assumes nothing.
use Rattle.verdict.proofs.Landed.{shift_fits_lem}
use Rattle.lanes.proofs.columns.side_of.Goals as goal

pub code_in-requires : goal.code_in-requires
code_in-requires c = shift_fits_lem _ _ c.requires
