-- `past::unary_ahead` meets its contract. Assumes nothing.
use mathlib.Core.Path.{ap, sym}
use Rattle.past.specs.Ahead.{unary_ahead}
use Rattle.past.proofs.unary_ahead.Goals as goal

pub returns-in-Not : goal.returns-in-Not
unfolding unary_ahead
returns-in-Not c = sym (ap unary_ahead c.in-Not.is)

pub returns-in-Next : goal.returns-in-Next
unfolding unary_ahead
returns-in-Next c = sym (ap unary_ahead c.in-Next.is)

pub returns-in-Yesterday : goal.returns-in-Yesterday
unfolding unary_ahead
returns-in-Yesterday c = sym (ap unary_ahead c.in-Yesterday.is)

pub returns-in-WeakYesterday : goal.returns-in-WeakYesterday
unfolding unary_ahead
returns-in-WeakYesterday c = sym (ap unary_ahead c.in-WeakYesterday.is)
