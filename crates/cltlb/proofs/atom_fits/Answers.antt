-- `cltlb::atom_fits` meets its contract. Assumes nothing.
use mathlib.Core.Path.{ap, ap₂, sym, ◌∙◌}
use mathlib.Core.Bool.{◌&&◌}
use mir.Syntax.{w32}
use mir.ValLaws.{to_z-of_z}
use Rattle.cltlb.specs.Fits.{atom_fits}
use Rattle.cltlb.proofs.Fits.{fits_window, fits_pinned}
use Rattle.cltlb.proofs.atom_fits.Goals as goal

pub returns-in-Less : goal.returns-in-Less
unfolding atom_fits
returns-in-Less c = ap₂ ◌&&◌ c.term_fits.ensures c.term_fits-in-Less.ensures ∙ sym (ap (atom_fits c.args.v) c.in-Less.is)

pub returns-in-Equal : goal.returns-in-Equal
unfolding atom_fits
returns-in-Equal c = ap₂ ◌&&◌ c.term_fits-in-Equal.ensures c.term_fits-in-Equal-2.ensures ∙ sym (ap (atom_fits c.args.v) c.in-Equal.is)

pub returns-in-Window : goal.returns-in-Window
returns-in-Window c = fits_window _ c.in-Window.is (to_z-of_z w32 _ (record { sfits = c.in-Window.known_told-in-Window-1-own.given.1.0.1 })) c.term_fits-in-Window.ensures c.window_fits.ensures

pub returns-in-Pinned : goal.returns-in-Pinned
returns-in-Pinned c = fits_pinned _ c.in-Pinned.is (to_z-of_z w32 _ (record { sfits = c.in-Pinned.known_told-in-Pinned-1-own.given.1.0.1 })) c.term_fits-in-Pinned.ensures
