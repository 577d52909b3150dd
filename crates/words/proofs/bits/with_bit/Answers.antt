-- `words::bits::with_bit` meets its contract. Assumes nothing.
use Rattle.words.proofs.SetBits.{set_as, unset_as}
use Rattle.words.proofs.bits.with_bit.Goals as goal

pub returns-then-mark : goal.returns-then-mark
returns-then-mark c = set_as c.args.part c.requires c.one_bit-one.ensures c.args.word c.args.mark c.if-mark.true

pub returns-else-mark : goal.returns-else-mark
returns-else-mark c = unset_as c.args.part c.requires c.one_bit-one.ensures c.args.word c.args.mark c.if-mark.false
