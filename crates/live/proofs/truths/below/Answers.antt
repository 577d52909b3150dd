use mathlib.Core.Path.{ap, ◌∙◌}
use Rattle.table.specs.Bytes.{byte_of}
use Rattle.live.proofs.TruthLaws.{below_kept, byte_from}
use Rattle.live.proofs.truths.below.Goals as goal

pub returns : goal.returns
returns c = c.from.ensures ∙ byte_from _ ∙ ap byte_of (below_kept _ _)
