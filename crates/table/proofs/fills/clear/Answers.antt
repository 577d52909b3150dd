-- `table::fills::clear` meets its contract. Assumes nothing.
use mathlib.Core.Path.{refl, ◌∙◌}
use Rattle.std.proofs.lemmas.Simd.{splat_is_map}
use Rattle.table.specs.Bytes.{zeroed}
use Rattle.table.proofs.fills.clear.Goals as goal

pub returns : goal.returns
unfolding zeroed
returns c = c.fill.ensures.after (λ y same. same) ∙ splat_is_map c.args.table.now _ 0 refl
