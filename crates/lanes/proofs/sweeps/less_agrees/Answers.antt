-- `lanes::sweeps::less_agrees` meets its contract. Assumes nothing.
use mathlib.Core.Bool.{Bool, not, ◌&&◌}
use lib.Dec.{ltb}
use mathlib.Core.Path.{◌∙◌, ap}
use mathlib.Core.Bool.{Bool, ◌&&◌}
use Rattle.lanes.proofs.Comparing as law
use Rattle.lanes.proofs.sweeps.less_agrees.Goals as goal

pub returns : goal.returns
returns c = ap (λ (t : Bool). t && (not (ltb c.args.a c.args.b && ltb c.args.e c.args.d) && not (not (ltb c.args.a c.args.b) && ltb c.args.d c.args.e))) c.agree.ensures ∙ law.less_agrees c.args.a c.args.d c.args.b c.args.e c.args.mark
