use Rattle.std.proofs.Common.{ap, sym, ◌∙◌}
use Rattle.endless_run.specs.Packing.{check_word}
use Rattle.endless_run.proofs.Words.{bit_from}
use Rattle.endless_run.proofs.truth_word.Goals as goal

pub refusal_word-requires : goal.refusal_word-requires
refusal_word-requires c = c.requires _ c.in-Err.is

pub returns-in-Ok : goal.returns-in-Ok
unfolding check_word
returns-in-Ok c = c.from.ensures ∙ bit_from _ ∙ sym (ap check_word c.in-Ok.is)

pub returns-in-Err : goal.returns-in-Err
unfolding check_word
returns-in-Err c = c.refusal_word.ensures ∙ sym (ap check_word c.in-Err.is)
