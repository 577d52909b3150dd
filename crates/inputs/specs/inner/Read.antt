-- What is read of a rule and a plan, and what is known of them then. Assumes nothing.
use Rattle.std.specs.Prelude.{Ok, Err, ℕ, ◌≡◌, List, Result}
use Rattle.refusal.specs.Outcome.{Outcome, unrefused}
use Rattle.rule.specs.Layout.{part_count, channel_count}
use Rattle.rule.specs.Sheet.{sheet_outcome}
use Rattle.plan.specs.Refusals.{plan_outcome}
use Rattle.plan.specs.declared.sizes.Sizes.{Sizes}
use Rattle.plan.specs.inner.Sizes.{sizes_in, Fitting}
use Rattle.inputs.specs.Outcome.{inputs_outcome}
use Rattle.refusal.specs.declared.Refusal.{Refusal}

-- the sizes of a rule and a plan that are clear, or their refusal
unfoldable pub read_of : List ℕ → List ℕ → Outcome → Result (ℕ × Sizes) Refusal
read_of rule plan (Ok _) = Ok ((part_count rule), (sizes_in plan))
read_of rule plan (Err r) = Err r

unfoldable pub inputs_read : List ℕ → List ℕ → Result (ℕ × Sizes) Refusal
inputs_read rule plan = read_of rule plan (inputs_outcome rule plan)

-- a rule of n parts and a plan of sizes z that clear refusals 1 to 6
pub record Ready (rule plan : List ℕ) (n : ℕ) (z : Sizes) : Type 0 where
  pub sheet : sheet_outcome rule ≡ unrefused
  pub plan_clear : plan_outcome (channel_count rule) plan ≡ unrefused
  pub parts : n ≡ part_count rule
  pub channels : z.channels ≡ channel_count rule
  pub fits : Fitting plan z
