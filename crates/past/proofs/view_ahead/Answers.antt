-- `past::view_ahead` meets its contract. Assumes nothing.
use mathlib.Core.Path.{ap, sym, ◌∙◌}
use Rattle.past.specs.Ahead.{view_ahead}
use Rattle.past.proofs.view_ahead.Goals as goal

pub returns-in-Atom : goal.returns-in-Atom
unfolding view_ahead
returns-in-Atom c = c.atom_ahead.ensures ∙ sym (ap view_ahead c.in-Atom.is)

pub returns-in-Operator : goal.returns-in-Operator
unfolding view_ahead
returns-in-Operator c = c.operator_ahead.ensures ∙ sym (ap view_ahead c.in-Operator.is)
