-- The parts of a rule, each named by its number, and the formula that a part stands for. Assumes nothing.
use Rattle.std.specs.Prelude.{ℕ, zero, suc, pos}
use Rattle.cltlb.specs.Truth.{Formula}
use Rattle.cltlb.specs.declared.Term.TheVariants.{Constant}
use Rattle.cltlb.specs.declared.Atom.TheVariants.{Less}
use Rattle.cltlb.specs.declared.Operator.TheVariants.{One, Two}
use Rattle.cltlb.specs.declared.View.{View}
use Rattle.cltlb.specs.declared.View.TheVariants.{Atom, Operator}

-- The formula of a part, from the formulas of the parts that it names.
unfoldable pub formula_from : View → (ℕ → Formula) → Formula
formula_from (Atom x) f = Formula.atom x
formula_from (Operator (One o a)) f = Formula.one o (f a)
formula_from (Operator (Two o a b)) f = Formula.two o (f a) (f b)

-- The formula of part i, names being followed `depth` deep; where they run out, a comparison that is false.
unfoldable pub formula_to : (ℕ → View) → ℕ → ℕ → Formula
formula_to parts zero i = Formula.atom (Less (Constant (pos 0)) (Constant (pos 0)))
formula_to parts (suc depth) i = formula_from (parts i) (formula_to parts depth)

-- The formula of part i. A named part is lower than its user, so that i + 1 deep is deep enough (proofs/Depth).
unfoldable pub formula_of : (ℕ → View) → ℕ → Formula
formula_of parts i = formula_to parts (suc i) i
