-- The invariants of `maker::guesses::put_witnesses`.
use Rattle.plan.specs.inner.Sizes.{all_rows}
use Rattle.maker.specs.inner.Guesses.{Witnessed}
use Rattle.maker.proofs.guesses.put_witnesses.Given as goal

abbrev pub invariant-loop-i : goal.invariant-loop-i
invariant-loop-i l = Witnessed l.inputs.rule.now l.inputs.plan.bytes.now l.initial.table l.table l.inputs.parts (all_rows l.inputs.plan.sizes) l.i
