use Rattle.std.proofs.Common.{ap, sym, ◌∙◌}
use Rattle.endless_run.specs.Packing.{told_word}
use Rattle.endless_run.proofs.Words.{bit_from}
use Rattle.endless_run.proofs.live_calls.told_word.Goals as goal

pub returns-in-Truth : goal.returns-in-Truth
returns-in-Truth c = c.from.ensures ∙ bit_from _ ∙ sym (ap told_word c.in-Truth.is)
