-- A mark, or its opposite. Assumes nothing.
use mathlib.Core.Path.{◌≡◌, refl, sym, ap, ◌∙◌}
use mathlib.Core.Bool.{Bool, true, false, not, ◌&&◌, ◌||◌, beq}
use Rattle.table.specs.inner.Tables.{flipped, step_of}

-- The exclusive or flips a test.
pub xor_flips : (x o : Bool) → not (beq x o) ≡ flipped o x
xor_flips true true = refl
xor_flips true false = refl
xor_flips false true = refl
xor_flips false false = refl

-- R is U of the opposites.
pub de_morgan : (x y z : Bool) → not (x && (y || z)) ≡ (not x || (not y && not z))
de_morgan true true z = refl
de_morgan true false z = refl
de_morgan false y z = refl

beq_not : (x y : Bool) → beq (not x) (not y) ≡ beq x y
beq_not true true = refl
beq_not true false = refl
beq_not false true = refl
beq_not false false = refl

pub dual_step : (m a b n : Bool) → step_of true m a b n ≡ beq m (b && (a || n))
dual_step m a b n = ap (beq (not m)) (sym (de_morgan b a n)) ∙ beq_not m (b && (a || n))

-- A test of marks, or of their opposites, as it was asked for.
pub asked_for : (test : Bool → Bool) {opposite side r : Bool} → opposite ≡ side → r ≡ test side → r ≡ test opposite
asked_for test e h = h ∙ ap test (sym e)
