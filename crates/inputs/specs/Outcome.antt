-- Refusals 1 to 6 of a rule and a plan, in the order of checking: what every entry that takes both asks first. Assumes nothing.
use Rattle.std.specs.Prelude.{ℕ, List}
use Rattle.refusal.specs.Outcome as refusal
use Rattle.refusal.specs.First.{◌or_else◌}
use Rattle.rule.specs.Layout.{channel_count}
use Rattle.rule.specs.Sheet.{sheet_outcome}
use Rattle.plan.specs.Refusals.{plan_outcome}

-- 1 to 3 of the rule, then 4 to 6 of the plan, against the rule's V
unfoldable pub inputs_outcome : List ℕ → List ℕ → refusal.Outcome
inputs_outcome rule plan = sheet_outcome rule or_else plan_outcome (channel_count rule) plan
