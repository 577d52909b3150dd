-- The byte strings of the examples are bytes. Assumes nothing.
use Prim.Native.Nat.{ℕ, zero, suc, ◌<◌}
use native.Mathlib.Omega.{arith}
use mathlib.Core.Path.{◌≡◌, refl, ap₂}
use mathlib.Core.Bool.{Bool, true, ◌&&◌, and-eq-true_iff}
use mathlib.Core.List.{List, [], ◌∷◌}
use lib.Dec.{ltb, ltb→lt}
use borrow.Author.Tests.{lt-ltb}
use Rattle.fields.specs.inner.Ranges.{Bytes}
use Rattle.worked_examples.specs.Rows.{All}
use Rattle.worked_examples.specs.Handed.{question_bytes, call_bytes}
use Rattle.worked_examples.specs.Table.{examples}
use Rattle.worked_examples.specs.MoreSheets.{copies}
use Rattle.worked_examples.specs.More.{more}
use Rattle.worked_examples.proofs.EveryRow.{all_pass, all_pass_lem}

-- the numbers of a list are all below 256, as a test
unfoldable pub are_bytes : List ℕ → Bool
are_bytes s = all_pass (λ b. ltb b 256) s

pub bytes : (s : List ℕ) → are_bytes s ≡ true → Bytes s
unfolding are_bytes all_pass Bytes
bytes [] e i = omega arith
bytes (b ∷ bs) e zero =
    let below : ltb b 256 ≡ true = ((and-eq-true_iff (ltb b 256) (are_bytes bs)).0 e).0 in
    ltb→lt b 256 (rw below tt)
bytes (b ∷ bs) e (suc i) = bytes bs ((and-eq-true_iff (ltb b 256) (are_bytes bs)).0 e).1 i

-- every row of a table hands over bytes, as a test
module _ {Row : Type 0} (handed : Row → List (List ℕ)) where
  unfoldable pub hand_bytes : List Row → Bool
  hand_bytes rows = all_pass (λ row. all_pass are_bytes (handed row)) rows

  pub all_bytes : (rows : List Row) → hand_bytes rows ≡ true → All (λ row. All Bytes (handed row)) rows
  unfolding hand_bytes
  all_bytes rows e =
      all_pass_lem (λ row. all_pass are_bytes (handed row)) (λ row. All Bytes (handed row))
      (λ row. all_pass_lem are_bytes Bytes bytes (handed row)) rows e

-- E10's two open bytes, in two rows, are all that is left of the test
examples_pass : (lo hi : ℕ) → lo < 256 → hi < 256 → hand_bytes question_bytes (examples lo hi) ≡ true
unfolding hand_bytes all_pass are_bytes question_bytes examples
examples_pass lo hi l h = ap₂ (λ (x y : Bool). ((x && (y && true)) && true) && (((x && (y && true)) && true) && true)) (lt-ltb lo 256 l) (lt-ltb hi 256 h)

more_pass : hand_bytes call_bytes more ≡ true
unfolding hand_bytes all_pass are_bytes call_bytes more copies
more_pass = refl

pub example_bytes : (lo hi : ℕ) → lo < 256 → hi < 256 → All (λ question. All Bytes (question_bytes question)) (examples lo hi)
example_bytes lo hi l h = all_bytes question_bytes (examples lo hi) (examples_pass lo hi l h)

pub more_bytes : All (λ call. All Bytes (call_bytes call)) more
more_bytes = all_bytes call_bytes more more_pass

-- 255 is a byte, and 256 is none
pub within : Bytes (0 ∷ 255 ∷ [])
unfolding are_bytes all_pass
within = bytes (0 ∷ 255 ∷ []) refl

pub beyond : ¬ Bytes (0 ∷ 256 ∷ [])
unfolding Bytes
beyond b = let h = b 1 in omega arith
