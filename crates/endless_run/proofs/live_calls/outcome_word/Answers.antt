use Rattle.std.proofs.Common.{ap, sym, ◌∙◌}
use Rattle.endless_run.specs.Packing.{outcome_word}
use Rattle.endless_run.proofs.live_calls.outcome_word.Goals as goal

pub refusal_word-requires : goal.refusal_word-requires
refusal_word-requires c = c.requires _ c.in-Err.is

pub returns-in-Ok : goal.returns-in-Ok
unfolding outcome_word
returns-in-Ok c = sym (ap outcome_word c.in-Ok.is)

pub returns-in-Err : goal.returns-in-Err
unfolding outcome_word
returns-in-Err c = c.refusal_word.ensures ∙ sym (ap outcome_word c.in-Err.is)
