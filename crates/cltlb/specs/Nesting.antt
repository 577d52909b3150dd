-- How deep Y, Z, S and T, the operators that look back, are nested in a part. Assumes nothing.
use Rattle.std.specs.Prelude.{ℕ, zero, suc, ◌+◌, max}
use Rattle.cltlb.specs.declared.Unary.{Unary}
use Rattle.cltlb.specs.declared.Unary.TheVariants.{Not, Next, Yesterday, WeakYesterday}
use Rattle.cltlb.specs.declared.Binary.{Binary}
use Rattle.cltlb.specs.declared.Binary.TheVariants.{And, Or, Until, Release, Since, Trigger}
use Rattle.cltlb.specs.declared.Operator.TheVariants.{One, Two}
use Rattle.cltlb.specs.declared.View.{View}
use Rattle.cltlb.specs.declared.View.TheVariants.{Atom, Operator}

-- one deeper for each of Y, Z, S and T, and no deeper for the others
abbrev pub deeper_one : Unary → ℕ
deeper_one Not = 0
deeper_one Next = 0
deeper_one Yesterday = 1
deeper_one WeakYesterday = 1

abbrev pub deeper_two : Binary → ℕ
deeper_two And = 0
deeper_two Or = 0
deeper_two Until = 0
deeper_two Release = 0
deeper_two Since = 1
deeper_two Trigger = 1

-- of a part, from how deep they are nested in the parts that it names
unfoldable pub nesting_from : View → (ℕ → ℕ) → ℕ
nesting_from (Atom x) deep = 0
nesting_from (Operator (One o a)) deep = deeper_one o + deep a
nesting_from (Operator (Two o a b)) deep = deeper_two o + max (deep a) (deep b)

-- of part i, names being followed `depth` deep
unfoldable pub nesting_to : (ℕ → View) → ℕ → ℕ → ℕ
nesting_to parts zero i = 0
nesting_to parts (suc depth) i = nesting_from (parts i) (nesting_to parts depth)

-- A named part is lower than its user, so that i + 1 deep is deep enough.
unfoldable pub nesting : (ℕ → View) → ℕ → ℕ
nesting parts i = nesting_to parts (suc i) i

-- the deepest nesting of the first n parts
unfoldable pub deepest : (ℕ → View) → ℕ → ℕ
deepest parts zero = 0
deepest parts (suc n) = max (deepest parts n) (nesting parts n)
