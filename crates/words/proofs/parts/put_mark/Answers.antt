-- `words::parts::put_mark` meets its contract. Assumes nothing.
use Rattle.words.proofs.Marking.{mark_put}
use Rattle.words.proofs.parts.put_mark.Goals as goal

pub returns : goal.returns
returns c = mark_put c.args.part c.args.row c.args.mark c.word_at-word.ensures c.with_bit.ensures c.put_word.ensures
