-- `laid_out::fits::fits_word` meets its contract. Assumes nothing.
use mathlib.Core.Path.{◌∙◌}
use borrow.Author.Tests.{lt-leb}
use native.Mathlib.Omega.{arith}
use Rattle.laid_out.proofs.Words.{below_word, word_test}
use Rattle.laid_out.proofs.fits.fits_word.Goals as goal

pub returns-then-value-ge-LEAST : goal.returns-then-value-ge-LEAST
returns-then-value-ge-LEAST c = word_test _ c.if-value-ge-LEAST.true

pub returns-else-value-ge-LEAST : goal.returns-else-value-ge-LEAST
returns-else-value-ge-LEAST c = lt-leb _ _ (omega arith) ∙ below_word c.args.value (omega arith)
