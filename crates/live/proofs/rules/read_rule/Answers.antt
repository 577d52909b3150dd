use Rattle.std.proofs.Common.{rules}
use Rattle.live.proofs.RuleLaws as law
use Rattle.live.proofs.rules.read_rule.Goals as goal

pub returns-in_err-sizes : goal.returns-in_err-sizes
returns-in_err-sizes c = let e = law.read_refused c.args.v c.args.sheet.now c.check_sheet.ensures c.in_err-sizes.was in search rules

pub returns-then-sizes-v : goal.returns-then-sizes-v
returns-then-sizes-v c = law.other_channels c.args.v c.args.sheet.now c.check_sheet.ensures c.in_ok-sizes.was c.if-sizes-v.true

pub returns-then-any_ahead : goal.returns-then-any_ahead
returns-then-any_ahead c = law.looks_ahead c.args.v c.args.sheet.now c.check_sheet.ensures c.in_ok-sizes.was c.any_ahead.ensures c.if-sizes-v.false c.if-any_ahead.true

pub returns : goal.returns
returns c = law.looks_back c.args.v c.args.sheet.now c.check_sheet.ensures c.in_ok-sizes.was c.any_ahead.ensures c.if-sizes-v.false c.if-any_ahead.false
