use Rattle.std.proofs.Common.{ap, sym, ◌∙◌}
use Rattle.endless_run.specs.Packing.{answer_word}
use Rattle.endless_run.proofs.LiveWords as law
use Rattle.endless_run.proofs.live_calls.endless_run_live_answer.Goals as goal

pub refusal_word-requires : goal.refusal_word-requires
refusal_word-requires c = law.answer_packs c.args.s.now c.args.place c.answer.ensures.is_answer _ c.in-Err.is

pub returns-in-Ok : goal.returns-in-Ok
unfolding answer_word
returns-in-Ok c = law.answer_word_lem c.args.s.now c.args.place (c.told_word.ensures ∙ sym (ap answer_word c.in-Ok.is)) c.answer.ensures

pub returns-in-Err : goal.returns-in-Err
unfolding answer_word
returns-in-Err c = law.answer_word_lem c.args.s.now c.args.place (c.refusal_word.ensures ∙ sym (ap answer_word c.in-Err.is)) c.answer.ensures
