-- `verdict::rows::judge_landed` meets its contract. Assumes nothing.
use mathlib.Core.Path.{ap}
use mathlib.Core.Bool.{not}
use borrow.Author.Tests.{ne_eqb}
use Rattle.verdict.proofs.Values.{landed_free}
use Rattle.verdict.proofs.rows.judge_landed.Goals as goal

pub returns-then-this-ne0 : goal.returns-then-this-ne0
returns-then-this-ne0 g c = landed_free c.args.plan.now.bytes.now c.args.comparison _ _ c.args.k (c.requires.3 (ap not (ne_eqb _ 0 c.if-this-ne0.true))) c.decide.ensures c.landed_line-a.ensures.0 c.landed_line-b.ensures.0
