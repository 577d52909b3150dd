-- `past::binary_ahead` meets its contract. Assumes nothing.
use mathlib.Core.Path.{ap, sym}
use Rattle.past.specs.Ahead.{binary_ahead}
use Rattle.past.proofs.binary_ahead.Goals as goal

pub returns-in-And : goal.returns-in-And
unfolding binary_ahead
returns-in-And c = sym (ap binary_ahead c.in-And.is)

pub returns-in-Or : goal.returns-in-Or
unfolding binary_ahead
returns-in-Or c = sym (ap binary_ahead c.in-Or.is)

pub returns-in-Until : goal.returns-in-Until
unfolding binary_ahead
returns-in-Until c = sym (ap binary_ahead c.in-Until.is)

pub returns-in-Release : goal.returns-in-Release
unfolding binary_ahead
returns-in-Release c = sym (ap binary_ahead c.in-Release.is)

pub returns-in-Since : goal.returns-in-Since
unfolding binary_ahead
returns-in-Since c = sym (ap binary_ahead c.in-Since.is)

pub returns-in-Trigger : goal.returns-in-Trigger
unfolding binary_ahead
returns-in-Trigger c = sym (ap binary_ahead c.in-Trigger.is)
