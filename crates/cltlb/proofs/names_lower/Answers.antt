use mathlib.Core.Path.{ap, sym}
use Rattle.cltlb.specs.Fits.{names_lower}
use Rattle.cltlb.proofs.names_lower.Goals as goal

pub returns-in-One : goal.returns-in-One
unfolding names_lower
returns-in-One c = sym (ap (names_lower c.args.n) c.in-One.is)

pub returns-in-Two : goal.returns-in-Two
unfolding names_lower
returns-in-Two c = sym (ap (names_lower c.args.n) c.in-Two.is)
