-- `maker::guesses::guess_table` meets its contract. Assumes nothing.
use mathlib.Core.Path.{sym, ◌∙◌}
use Rattle.labelling.proofs.Guessing.{as_long}
use Rattle.maker.proofs.Guessed.{guess_right}
use Rattle.maker.proofs.guesses.guess_table.Goals as goal

pub returns : goal.returns
returns c = record {
  long = c.put_number-2.ensures.long ∙ c.put_number.ensures.long ∙ c.put_witnesses.ensures.long ∙ c.guess_marks.ensures;
  is_check = c.check_marks.ensures;
  right = λ v a. guess_right _ _ c.args.inputs.now.ready _ _ _ _ c.put_witnesses.ensures (as_long c.guess_marks.ensures c.requires) c.put_number.ensures c.put_number-2.ensures v (sym c.check_marks.ensures ∙ a);
}
