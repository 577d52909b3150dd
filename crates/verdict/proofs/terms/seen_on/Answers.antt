-- `verdict::terms::seen_on` meets its contract. Assumes nothing.
use mathlib.Core.Path.{◌∙◌, ap, subst}
use native.Mathlib.Omega.{arith}
use Prim.Native.Nat.{ℕ, ◌+◌, ◌*◌}
use mir.Syntax.{w32}
use mir.ValLaws.{to_z-of_z}
use Rattle.cltlb.specs.Fits.{shift_fits}
use Rattle.verdict.specs.inner.Landed.{shift_in, LandsAt}
use Rattle.verdict.proofs.Values.{reading_fits, sees_constant, sees_reading}
use Rattle.verdict.proofs.Landed.{lands_at, one_code}
use Rattle.verdict.proofs.terms.seen_on.Goals as goal

pub code_of-requires : goal.code_of-requires
code_of-requires c = ap shift_fits (to_z-of_z w32 _ (record { sfits = c.in-Reading.known_told-in-Reading-1-own.given.1.0.1 })) ∙ (reading_fits _ _ _ c.in-Reading.is _ c.requires.0).1

pub seen_on_landing-requires : goal.seen_on_landing-requires
seen_on_landing-requires c =
    let code = c.code_of.ensures.0 ∙ to_z-of_z w32 _ (record { sfits = c.in-Reading.known_told-in-Reading-1-own.given.1.0.1 }) in
    let same = one_code c.requires.2.code c.code_of.result (c.requires.2.is_code ∙ ap shift_in c.in-Reading.is) code in
    ((reading_fits _ _ _ c.in-Reading.is _ c.requires.0).0, omega (arith, c.args.plan.now.fits.a_cycle, c.code_of.ensures.1), subst (λ (n : ℕ). LandsAt c.args.plan.now.bytes.now c.args.plan.now.sizes c.args.landing (c.args.row + c.args.k * c.args.plan.now.sizes.cycle + n) c.args.k) same (lands_at c.args.plan.now.fits c.args.row c.requires.1 c.args.term c.args.landing c.requires.2 c.args.k))

pub returns-in-Constant : goal.returns-in-Constant
returns-in-Constant c = sees_constant _ _ (c.args.row + c.args.k * c.args.plan.now.sizes.cycle) _ _ c.in-Constant.is (c.constant.ensures.0 ∙ to_z-of_z w32 _ (record { sfits = c.in-Constant.known_told-1-own.given.0.1 }))

pub returns-in-Reading : goal.returns-in-Reading
returns-in-Reading c = sees_reading _ _ _ _ _ _ _ c.in-Reading.is (c.code_of.ensures.0 ∙ to_z-of_z w32 _ (record { sfits = c.in-Reading.known_told-in-Reading-1-own.given.1.0.1 })) c.seen_on_landing.ensures
