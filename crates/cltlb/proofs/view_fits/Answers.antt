use mathlib.Core.Path.{ap, sym, ◌∙◌}
use Rattle.cltlb.specs.Fits.{view_fits}
use Rattle.cltlb.proofs.view_fits.Goals as goal

pub returns-in-Atom : goal.returns-in-Atom
unfolding view_fits
returns-in-Atom c = c.atom_fits.ensures ∙ sym (ap (view_fits c.args.v c.args.n) c.in-Atom.is)

pub returns-in-Operator : goal.returns-in-Operator
unfolding view_fits
returns-in-Operator c = c.names_lower.ensures ∙ sym (ap (view_fits c.args.v c.args.n) c.in-Operator.is)
