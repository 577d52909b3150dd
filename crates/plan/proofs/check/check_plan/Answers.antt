use Rattle.std.proofs.Common.{rules}
-- `plan::check::check_plan` meets its contract. Assumes nothing.
use mathlib.Core.Path.{◌∙◌, sym}
use Rattle.std.proofs.lemmas.Grind.{common_steps}
use Rattle.plan.proofs.Fits.{counted}
use Rattle.plan.proofs.Outcomes as outcomes
use native.Mathlib.Omega.{arith}
use Rattle.plan.proofs.check.check_plan.Goals as goal

pub returns-in_err-sizes : goal.returns-in_err-sizes
returns-in_err-sizes c = grind (arith, common_steps, outcomes.sizes_refused c.args.v c.args.bytes.now)

pub returns-then-sizes-v : goal.returns-then-sizes-v
returns-then-sizes-v c = outcomes.channels_refused c.args.v c.args.bytes.now (sym c.read_sizes.ensures ∙ c.in_ok-sizes.ensures.ok_part) c.if-sizes-v.true

pub invariant_of-plan : goal.invariant_of-plan
invariant_of-plan c = record { in_bytes = search rules; fits = counted c.args.bytes.now (sym c.read_sizes.ensures ∙ c.in_ok-sizes.ensures.ok_part) }

pub returns-in_err-rows_before_cycle : goal.returns-in_err-rows_before_cycle
returns-in_err-rows_before_cycle c = let law = outcomes.drifts_refused c.args.v c.args.bytes.now (sym c.read_sizes.ensures ∙ c.in_ok-sizes.ensures.ok_part) c.if-sizes-v.false _ c.rows_before_cycle.ensures c.in_err-rows_before_cycle.was in grind (arith, common_steps, law)

pub returns-in_ok-rows_before_cycle : goal.returns-in_ok-rows_before_cycle
returns-in_ok-rows_before_cycle c = outcomes.fits_read c.args.v c.args.bytes.now (sym c.read_sizes.ensures ∙ c.in_ok-sizes.ensures.ok_part) c.if-sizes-v.false _ c.rows_before_cycle.ensures c.in_ok-rows_before_cycle.was

pub returns-else-not-stored_still : goal.returns-else-not-stored_still
returns-else-not-stored_still c = outcomes.still_read c.args.v c.args.bytes.now (sym c.read_sizes.ensures ∙ c.in_ok-sizes.ensures.ok_part) c.if-sizes-v.false (c.stored_still.ensures c.if-not-stored_still.false)
