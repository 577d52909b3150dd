-- `lanes::weeks::share_after` meets its contract. Assumes nothing.
use mathlib.Core.Path.{refl}
use Rattle.lanes.proofs.Windows.{share_after}
use Rattle.lanes.proofs.weeks.share_after.Goals as goal

pub returns : goal.returns
returns c = share_after c.args.known c.requires.2 c.args.a c.args.b c.requires.0 c.requires.1 c.share.ensures c.share-2.ensures refl
