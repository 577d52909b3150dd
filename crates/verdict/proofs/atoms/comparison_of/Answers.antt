-- `verdict::atoms::comparison_of` meets its contract. Assumes nothing.
use borrow.Author.Rules.{sfits_of}
use mir.Syntax.{w32}
use mir.ValLaws.{to_z-of_z, to_z_pos}
use Rattle.verdict.proofs.Values.{window_comparison, window_begins}
use native.Mathlib.Omega.{arith}
use Rattle.verdict.proofs.atoms.comparison_of.Goals as goal

pub overflow_cast-result : goal.overflow_cast-result
overflow_cast-result c = sfits_of (omega (arith, window_begins c.in-Window.is c.requires))

pub returns-in-Window : goal.returns-in-Window
returns-in-Window c = window_comparison c.in-Window.is (to_z-of_z w32 _ (record { sfits = c.in-Window.known_told-in-Window-1-own.given.1.0.1 })) c.minutes_after.ensures (to_z_pos w32 _ (omega (arith, window_begins c.in-Window.is c.requires)))
