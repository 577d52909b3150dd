-- `verdict::weeks::spacing` meets its contract. The invariant: the two numbers have the greatest common divisor that is asked for. Assumes nothing.
use native.Mathlib.Omega.{arith}
use mathlib.Core.Path.{sym, ◌∙◌}
use Rattle.verdict.proofs.Euclid.{gcd_end, gcd_on}
use Rattle.verdict.proofs.Residues.{spaced}
use Rattle.verdict.proofs.weeks.spacing.Goals as goal

pub loop-y-preserved : goal.loop-y-preserved
loop-y-preserved c = sym (gcd_on _ _ c.loop-y-test.true) ∙ c.loop-y.invariant

pub returns : goal.returns
returns c = spaced _ (sym (gcd_end _ _ (omega (arith, c.loop-y-test.false))) ∙ c.loop-y.invariant)
