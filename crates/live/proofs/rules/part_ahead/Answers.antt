use Rattle.live.proofs.RuleLaws as law
use Rattle.live.proofs.rules.part_ahead.Goals as goal

pub returns-in-Ok : goal.returns-in-Ok
returns-in-Ok c = law.part_ahead c.args.sheet.now c.args.i c.take.ensures c.in-Ok.is c.view_of.ensures c.view_ahead.ensures

pub returns-in-Err : goal.returns-in-Err
returns-in-Err c = law.none_ahead c.args.sheet.now c.args.i c.take.ensures c.in-Err.is
