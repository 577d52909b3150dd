-- What is read of a plan, for a rule. Assumes nothing.
use Rattle.std.specs.Prelude.{Result, Ok, Err, ℕ, List}
use Rattle.plan.specs.declared.sizes.Sizes.{Sizes}
use Rattle.refusal.specs.declared.Refusal.{Refusal}
use Rattle.refusal.specs.Outcome.{Outcome}
use Rattle.plan.specs.Refusals.{plan_outcome}
use Rattle.plan.specs.inner.Sizes.{sizes_in}

-- the sizes of a plan that is clear, or its refusal
abbrev pub read_of : List ℕ → Outcome → Result Sizes Refusal
read_of plan (Ok _) = Ok (sizes_in plan)
read_of plan (Err refusal) = Err refusal

unfoldable pub plan_read : ℕ → List ℕ → Result Sizes Refusal
plan_read v plan = read_of plan (plan_outcome v plan)
