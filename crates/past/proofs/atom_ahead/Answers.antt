-- `past::atom_ahead` meets its contract. Assumes nothing.
use mathlib.Core.Path.{ap, ap₂, sym, ◌∙◌}
use mathlib.Core.Bool.{◌||◌}
use mir.Syntax.{w32}
use mir.ValLaws.{to_z-of_z}
use Rattle.past.specs.Ahead.{shift_ahead, atom_ahead}
use Rattle.past.proofs.atom_ahead.Goals as goal

pub returns-in-Less : goal.returns-in-Less
unfolding atom_ahead
returns-in-Less c = ap₂ ◌||◌ c.term_ahead.ensures c.term_ahead-in-Less.ensures ∙ sym (ap atom_ahead c.in-Less.is)

pub returns-in-Equal : goal.returns-in-Equal
unfolding atom_ahead
returns-in-Equal c = ap₂ ◌||◌ c.term_ahead-in-Equal.ensures c.term_ahead-in-Equal-2.ensures ∙ sym (ap atom_ahead c.in-Equal.is)

pub returns-in-Window : goal.returns-in-Window
unfolding atom_ahead
returns-in-Window c = c.shift_ahead.ensures ∙ ap shift_ahead (to_z-of_z w32 _ (record { sfits = c.in-Window.known_told-in-Window-1-own.given.1.0.1 })) ∙ sym (ap atom_ahead c.in-Window.is)

pub returns-in-Pinned : goal.returns-in-Pinned
unfolding atom_ahead
returns-in-Pinned c = c.shift_ahead-in-Pinned.ensures ∙ ap shift_ahead (to_z-of_z w32 _ (record { sfits = c.in-Pinned.known_told-in-Pinned-1-own.given.1.0.1 })) ∙ sym (ap atom_ahead c.in-Pinned.is)
