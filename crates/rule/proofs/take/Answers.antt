use native.Mathlib.Omega.{arith}
use mathlib.Core.Path.{sym, ◌∙◌}
use Rattle.std.proofs.Common.{rules}
use Rattle.rule.proofs.Taking as law
use Rattle.rule.proofs.Promised.{take_promise}
use Rattle.rule.proofs.take.Goals as goal

pub returns-in_err-sizes : goal.returns-in_err-sizes
returns-in_err-sizes c = let e = take_promise _ _ (λ i. omega (arith, c.shared_slice_known-1.given i)) (law.take_sizes _ c.args.n (sym c.read_sizes.ensures ∙ c.in_err-sizes.ensures.ok_part)) in search rules

pub returns-then-sizes-n : goal.returns-then-sizes-n
returns-then-sizes-n c = take_promise _ _ (λ i. omega (arith, c.shared_slice_known-1.given i)) (law.take_absent _ _ (sym c.read_sizes.ensures ∙ c.in_ok-sizes.ensures.ok_part) c.if-sizes-n.true)

pub returns : goal.returns
returns c = take_promise _ _ (λ i. omega (arith, c.shared_slice_known-1.given i)) c.part_at.ensures
