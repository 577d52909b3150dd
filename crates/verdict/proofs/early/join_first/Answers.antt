-- `verdict::early::join_first` meets its contract. Assumes nothing.
use native.Mathlib.Omega.{arith}
use mathlib.Core.Path.{refl}
use Rattle.verdict.proofs.Values.{pass_joined, all_joined}
use Rattle.verdict.proofs.early.join_first.Goals as goal

pub loop-k-init : goal.loop-k-init
loop-k-init g c = λ truth same. refl

pub loop-k-preserved : goal.loop-k-preserved
loop-k-preserved g c = λ truth same. pass_joined truth c.loop-k.k _ c.loop-k.verdict (c.loop-k.invariant truth same) c.loop-k-test.true (same _ _ (omega arith) c.test.ensures) c.join-verdict.ensures

pub returns : goal.returns
returns g c = λ truth same. all_joined truth c.loop-k.k _ c.loop-k.verdict (c.loop-k.invariant truth same) (omega arith)
