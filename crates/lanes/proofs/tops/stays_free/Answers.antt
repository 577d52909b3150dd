-- `lanes::tops::stays_free` meets its contract. Assumes nothing.
use mathlib.Core.Path.{◌≡◌, sym, ◌∙◌}
use Rattle.std.proofs.Common.{rules}
use Rattle.table.specs.inner.Tables.{all_below}
use Rattle.lanes.specs.inner.Agreement.{lies_below}
use Rattle.lanes.specs.inner.Columns.{line_in, top_in}
use Rattle.lanes.proofs.Topped.{stay_without, stay_swept}
use Rattle.lanes.proofs.tops.stays_free.Goals as goal

pub returns-then-x-eq0 : goal.returns-then-x-eq0
returns-then-x-eq0 c = λ _. stay_without _ _ c.args.x _ c.if-x-eq0.true

pub returns : goal.returns
returns c = λ t.
    let swept : c.all_hold.result ≡ all_below (λ k. lies_below (top_in c.args.x) (line_in c.args.values.now c.args.drifts.now c.args.x k)) c.args.count = search rules in
    stay_swept _ _ c.args.x _ c.if-x-eq0.false (sym swept ∙ t)
