-- `rule::operands::put_atom` meets its contract. Assumes nothing.
use mathlib.Core.Path.{sym, ap, ◌∙◌}
use mir.Syntax.{w32}
use mir.ValLaws.{to_z-of_z}
use Rattle.cltlb.specs.Fits.{atom_fits}
use Rattle.cltlb.proofs.Fits.{less_fits, equal_fits}
use Rattle.rule.proofs.OperandsWritten.{window_asks, window_put, pinned_asks, pinned_put}
use Rattle.rule.proofs.operands.put_atom.Goals as goal

pub put_terms-requires : goal.put_terms-requires
put_terms-requires c = let f = less_fits 8 _ _ (sym (ap (atom_fits 8) c.in-Less.is) ∙ c.requires.1) in (c.requires.0, f.0, f.1)

pub put_terms-requires-in-Equal : goal.put_terms-requires-in-Equal
put_terms-requires-in-Equal c = let f = equal_fits 8 _ _ (sym (ap (atom_fits 8) c.in-Equal.is) ∙ c.requires.1) in (c.requires.0, f.0, f.1)

pub put_window-requires : goal.put_window-requires
put_window-requires c = let f = window_asks c.in-Window.is (to_z-of_z w32 _ (record { sfits = c.in-Window.known_told-in-Window-1-own.given.1.0.1 })) 8 c.requires.1 in (c.requires.0, f.0, f.1)

pub put_pinned-requires : goal.put_pinned-requires
put_pinned-requires c = (c.requires.0, pinned_asks c.in-Pinned.is (to_z-of_z w32 _ (record { sfits = c.in-Pinned.known_told-in-Pinned-1-own.given.1.0.1 })) 8 c.requires.1)

pub returns-in-Window : goal.returns-in-Window
returns-in-Window c = window_put c.in-Window.is (to_z-of_z w32 _ (record { sfits = c.in-Window.known_told-in-Window-1-own.given.1.0.1 })) c.args.t.now c.put_window.new.t c.put_window.ensures

pub returns-in-Pinned : goal.returns-in-Pinned
returns-in-Pinned c = pinned_put c.in-Pinned.is (to_z-of_z w32 _ (record { sfits = c.in-Pinned.known_told-in-Pinned-1-own.given.1.0.1 })) c.args.t.now c.put_pinned.new.t c.put_pinned.ensures
