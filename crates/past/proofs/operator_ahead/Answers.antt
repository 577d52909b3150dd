-- `past::operator_ahead` meets its contract. Assumes nothing.
use mathlib.Core.Path.{ap, sym, ◌∙◌}
use Rattle.past.specs.Ahead.{operator_ahead}
use Rattle.past.proofs.operator_ahead.Goals as goal

pub returns-in-One : goal.returns-in-One
unfolding operator_ahead
returns-in-One c = c.unary_ahead.ensures ∙ sym (ap operator_ahead c.in-One.is)

pub returns-in-Two : goal.returns-in-Two
unfolding operator_ahead
returns-in-Two c = c.binary_ahead.ensures ∙ sym (ap operator_ahead c.in-Two.is)
