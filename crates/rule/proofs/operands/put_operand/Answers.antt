use mathlib.Core.Path.{sym, ap, ◌∙◌}
use Rattle.cltlb.specs.Fits.{view_fits}
use Rattle.cltlb.proofs.Fits.{atom_fits_lem, operator_fits}
use Rattle.rule.proofs.operands.put_operand.Goals as goal

pub put_atom-requires : goal.put_atom-requires
put_atom-requires c = (c.requires.0, atom_fits_lem 8 64 _ (sym (ap (view_fits 8 64) c.in-Atom.is) ∙ c.requires.1))

pub put_names-requires : goal.put_names-requires
put_names-requires c = (c.requires.0, operator_fits 8 64 _ (sym (ap (view_fits 8 64) c.in-Operator.is) ∙ c.requires.1))
