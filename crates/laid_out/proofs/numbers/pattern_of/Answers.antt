-- `laid_out::numbers::pattern_of` meets its contract. Assumes nothing.
use Rattle.laid_out.proofs.Words.{word_pattern}
use Rattle.laid_out.proofs.numbers.pattern_of.Goals as goal

pub returns : goal.returns
returns c = word_pattern c.args.value c.requires
