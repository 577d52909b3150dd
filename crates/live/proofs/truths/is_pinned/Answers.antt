use mathlib.Core.Path.{ap, ◌∙◌}
use Rattle.table.specs.Bytes.{byte_of}
use Rattle.live.proofs.TruthLaws.{pinned_kept_lem, byte_from}
use Rattle.live.proofs.truths.is_pinned.Goals as goal

pub returns : goal.returns
returns c = c.from.ensures ∙ byte_from _ ∙ ap byte_of (pinned_kept_lem _)
