-- `plan::sizes::read_sizes` meets its contract. Assumes nothing.
use mathlib.Core.Path.{refl, sym, ◌∙◌}
use native.Mathlib.Omega.{arith}
use Rattle.plan.proofs.Fits as fits
use Rattle.plan.proofs.Pinned.{tops_handed}
use Rattle.plan.proofs.sizes.read_sizes.Goals as goal
use Rattle.plan.proofs.sizes.read_sizes.Goals.{then-plan-head-via-then-plan-head, then-plan-head-via-else-plan-head+then-not-tops_fit}

pub returns-then-plan-lt-SIZES_LENGTH : goal.returns-then-plan-lt-SIZES_LENGTH
returns-then-plan-lt-SIZES_LENGTH c = fits.too_short c.args.plan.now (omega arith)

pub returns-then-not-in_range : goal.returns-then-not-in_range
returns-then-not-in_range c = let plan = c.args.plan.now in
    fits.out_of_range plan (fits.reads plan c.u16_at.ensures.0 c.u16_at-2.ensures.0 c.u16_at-3.ensures.0 c.u16_at-4.ensures.0) (sym c.in_range.ensures ∙ c.if-not-in_range.true)

pub returns-then-plan-head : goal.returns-then-plan-head
returns-then-plan-head c = let plan = c.args.plan.now in
    let read = fits.reads plan c.u16_at.ensures.0 c.u16_at-2.ensures.0 c.u16_at-3.ensures.0 c.u16_at-4.ensures.0 in
    elim c.then-plan-head.branch [
      | then-plan-head-via-then-plan-head w ↦ fits.other_length plan read (λ e. w.if-plan-head.true (omega arith))
      | then-plan-head-via-else-plan-head+then-not-tops_fit w ↦ fits.a_negative_top plan read (sym (tops_handed plan read refl c.head_length-head.ensures w.tops_fit.ensures) ∙ w.if-not-tops_fit.true)
    ]

pub returns : goal.returns
returns c = let plan = c.args.plan.now in
    let read = fits.reads plan c.u16_at.ensures.0 c.u16_at-2.ensures.0 c.u16_at-3.ensures.0 c.u16_at-4.ensures.0 in
    fits.all_fits plan read (sym c.in_range.ensures ∙ c.if-not-in_range.false) (omega arith) (sym (tops_handed plan read refl c.head_length-head.ensures c.tops_fit.ensures) ∙ c.if-not-tops_fit.false)
