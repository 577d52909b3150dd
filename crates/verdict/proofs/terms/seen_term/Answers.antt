-- `verdict::terms::seen_term` meets its contract. Assumes nothing.
use mathlib.Core.Path.{◌∙◌, ap}
use native.Mathlib.Omega.{arith}
use mir.Syntax.{w32}
use mir.ValLaws.{to_z-of_z}
use Rattle.cltlb.specs.Fits.{shift_fits}
use Rattle.verdict.proofs.Values.{reading_fits, sees_constant, sees_reading}
use Rattle.verdict.proofs.terms.seen_term.Goals as goal

pub code_of-requires : goal.code_of-requires
code_of-requires c =
    let fits = reading_fits _ _ _ c.in-Reading.is _ c.requires.0 in
    ap shift_fits (to_z-of_z w32 _ (record { sfits = c.in-Reading.known_told-in-Reading-1-own.given.1.0.1 })) ∙ fits.1

pub seen_at-requires : goal.seen_at-requires
seen_at-requires c =
    let fits = reading_fits _ _ _ c.in-Reading.is _ c.requires.0 in
    (fits.0, omega (arith, c.args.plan.now.fits.a_cycle, c.code_of.ensures.1))

pub returns-in-Constant : goal.returns-in-Constant
returns-in-Constant c = sees_constant _ _ c.args.t _ _ c.in-Constant.is (c.constant.ensures.0 ∙ to_z-of_z w32 _ (record { sfits = c.in-Constant.known_told-1-own.given.0.1 }))

pub returns-in-Reading : goal.returns-in-Reading
returns-in-Reading c =
    let code = c.code_of.ensures.0 ∙ to_z-of_z w32 _ (record { sfits = c.in-Reading.known_told-in-Reading-1-own.given.1.0.1 }) in
    sees_reading _ _ _ _ _ _ _ c.in-Reading.is code c.seen_at.ensures.0
