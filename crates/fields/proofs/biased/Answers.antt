-- `fields::biased` meets its contract. Assumes nothing.
use Rattle.fields.specs.inner.Biased.{bias}
use native.Mathlib.Omega.{arith}
use Rattle.fields.proofs.Bias.{biased_signed}
use Rattle.fields.proofs.biased.Goals as goal

pub returns : goal.returns
returns c = (biased_signed 4 bias c.args.pattern (omega arith) (omega arith), omega arith)
