-- `past::term_ahead` meets its contract. Assumes nothing.
use mathlib.Core.Path.{ap, sym, ◌∙◌}
use mir.Syntax.{w32}
use mir.ValLaws.{to_z-of_z}
use Rattle.past.specs.Ahead.{shift_ahead, term_ahead}
use Rattle.past.proofs.term_ahead.Goals as goal

pub returns-in-Constant : goal.returns-in-Constant
unfolding term_ahead
returns-in-Constant c = sym (ap term_ahead c.in-Constant.is)

pub returns-in-Reading : goal.returns-in-Reading
unfolding term_ahead
returns-in-Reading c = c.shift_ahead.ensures ∙ ap shift_ahead (to_z-of_z w32 _ (record { sfits = c.in-Reading.known_told-1-own.given.1.0.1 })) ∙ sym (ap term_ahead c.in-Reading.is)
