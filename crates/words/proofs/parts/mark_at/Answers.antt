-- `words::parts::mark_at` meets its contract. Assumes nothing.
use mathlib.Core.Path.{ap, ◌∙◌}
use Prim.Native.Nat.{ℕ}
use Rattle.words.specs.inner.Words.{bit_of, mark_at}
use Rattle.words.proofs.parts.mark_at.Goals as goal

pub returns : goal.returns
unfolding mark_at
returns c = c.bit.ensures ∙ ap (λ (x : ℕ). bit_of x c.args.part) c.word_at.ensures
