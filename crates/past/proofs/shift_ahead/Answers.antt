-- `past::shift_ahead` meets its contract. Assumes nothing.
use mathlib.Core.Path.{ap}
use lib.IntN.{pos}
use lib.Signed.{lt_z}
use mir.Syntax.{w32}
use mir.ValLaws.{to_z-of_z}
use Rattle.past.specs.Ahead.{shift_ahead}
use Rattle.past.proofs.shift_ahead.Goals as goal

pub returns : goal.returns
unfolding shift_ahead
returns c = ap (lt_z (pos 0)) (to_z-of_z w32 c.args.shift c.ranges.shift)
