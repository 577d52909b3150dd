-- `words::bits::bit` meets its contract. Assumes nothing.
use mathlib.Core.Path.{refl}
use Rattle.words.specs.inner.Words.{bit_of}
use Rattle.words.proofs.bits.bit.Goals as goal

pub returns : goal.returns
unfolding bit_of
returns c = refl
