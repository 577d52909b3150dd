use mathlib.Core.Path.{sym, ap, ◌∙◌}
use Rattle.cltlb.specs.Fits.{names_lower}
use Rattle.cltlb.proofs.Fits.{one_lower, two_lower}
use Rattle.rule.proofs.OperandsWritten.{names_put}
use Rattle.rule.proofs.operands.put_names.Goals as goal

pub put_one-requires : goal.put_one-requires
put_one-requires c = (c.requires.0, one_lower 64 _ _ (sym (ap (names_lower 64) c.in-One.is) ∙ c.requires.1))

pub put_two-requires : goal.put_two-requires
put_two-requires c = let f = two_lower 64 _ _ _ (sym (ap (names_lower 64) c.in-Two.is) ∙ c.requires.1) in (c.requires.0, f.0, f.1)

pub returns-in-One : goal.returns-in-One
returns-in-One c = names_put c.args.t.now _ c.in-One.is c.put_one.ensures

pub returns-in-Two : goal.returns-in-Two
returns-in-Two c = names_put c.args.t.now _ c.in-Two.is c.put_two.ensures
