-- `verdict::rows::landings_of` meets its contract. Assumes nothing.
use Rattle.verdict.proofs.Landed.{shift_fits_lem, both_land}
use Rattle.verdict.proofs.rows.landings_of.Goals as goal

pub code_in-requires : goal.code_in-requires
code_in-requires c = shift_fits_lem _ _ c.requires.0.0

pub code_in-requires-2 : goal.code_in-requires-2
code_in-requires-2 c = shift_fits_lem _ _ c.requires.0.1

pub returns : goal.returns
returns c =
    both_land c.args.plan.now.sizes c.args.row c.args.comparison _ _ c.code_in.ensures c.landing_of-left.ensures c.code_in-2.ensures c.landing_of-right.ensures
