-- `words::rows::word_at` meets its contract. Assumes nothing.
use Rattle.words.specs.inner.Words.{word_on}
use Rattle.words.proofs.rows.word_at.Goals as goal

pub returns : goal.returns
unfolding word_on
returns c = c.u64_at.ensures
