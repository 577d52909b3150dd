use mathlib.Core.Path.{◌≡◌, subst}
use mathlib.Core.Bool.{true}
use Rattle.cltlb.specs.Fits.{names_lower}
use Rattle.cltlb.specs.declared.Operator.{Operator}
use Rattle.cltlb.proofs.Fits.{one_lower, two_lower}
use Rattle.labelling.proofs.operators.label_operator.Goals as goal

pub label_one-requires : goal.label_one-requires
label_one-requires c = (c.requires.0, c.requires.1, c.requires.2, one_lower _ _ _ (subst (λ (o : Operator). names_lower c.args.i o ≡ true) c.in-One.is c.requires.3))

pub label_two-requires : goal.label_two-requires
label_two-requires c =
    let names = two_lower _ _ _ _ (subst (λ (o : Operator). names_lower c.args.i o ≡ true) c.in-Two.is c.requires.3) in
    (c.requires.0, c.requires.1, c.requires.2, names.0, names.1)
