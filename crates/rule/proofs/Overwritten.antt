-- What stands in a list after bytes were written over a part of it: inside, before and behind. Assumes nothing.
use Prim.Native.Nat.{ℕ, ◌+◌, ◌-◌, ◌≤◌, ◌<◌}
use native.Mathlib.Omega.{arith}
use mathlib.Core.Path.{◌≡◌, sym, ap, ◌∙◌}
use mathlib.Core.List.{List, ◌++◌, append_assoc}
use lib.ListN.{length, get_or, take, drop, length-append, take-append-drop, get_or-append}
use lib.Seq.{take_at, drop_at, drop-drop, get_or-take, get_or-drop, get_or-append-add, length-take-le}
use Rattle.rule.specs.Put.{overwritten}

-- a field q behind p
pub between : (p q r : List ℕ) (n m : ℕ) → length p ≡ n → length q ≡ m → take m (drop n (p ++ (q ++ r))) ≡ q
between p q r n m e f = ap (take m) (drop_at p (q ++ r) n e) ∙ take_at q r m f

module _ (l w : List ℕ) (a : ℕ) (long : a ≤ length l) where
  pub inside : (m : ℕ) → length w ≡ m → take m (drop a (overwritten l a w)) ≡ w
  unfolding overwritten
  inside m e = between (take a l) w (drop (a + length w) l) a m (length-take-le a l long) e

  pub before : (i : ℕ) → i < a → get_or (overwritten l a w) i 0 ≡ get_or l i 0
  unfolding overwritten
  before i h =
      let size : length (take a l) ≡ a = length-take-le a l long in
      get_or-append (take a l) (w ++ drop (a + length w) l) 0 i (omega arith) ∙ get_or-take a l i 0 h

  pub behind : (i : ℕ) → a + length w ≤ i → get_or (overwritten l a w) i 0 ≡ get_or l i 0
  unfolding overwritten
  behind i h =
      let size : length (take a l ++ w) ≡ a + length w = length-append (take a l) w ∙ ap (λ (n : ℕ). n + length w) (length-take-le a l long) in
      let place : i ≡ length (take a l ++ w) + (i - (a + length w)) = omega arith in
      let there : a + length w + (i - (a + length w)) ≡ i = omega arith in
      ap (λ (s : List ℕ). get_or s i 0) (sym (append_assoc (take a l) w (drop (a + length w) l)))
      ∙ ap (λ (j : ℕ). get_or ((take a l ++ w) ++ drop (a + length w) l) j 0) place
      ∙ get_or-append-add (take a l ++ w) (drop (a + length w) l) (i - (a + length w)) 0
      ∙ get_or-drop (a + length w) l (i - (a + length w)) 0
      ∙ ap (λ (j : ℕ). get_or l j 0) there

-- the bytes that stand there already
pub same_bytes : (l w : List ℕ) (a m : ℕ) → length w ≡ m → take m (drop a l) ≡ w → overwritten l a w ≡ l
unfolding overwritten
same_bytes l w a m e f =
    ap (λ (v : List ℕ). take a l ++ (v ++ drop (a + length w) l)) (sym f)
    ∙ ap (λ (n : ℕ). take a l ++ (take m (drop a l) ++ drop (a + n) l)) e
    ∙ ap (λ (v : List ℕ). take a l ++ (take m (drop a l) ++ v)) (sym (drop-drop m a l))
    ∙ ap (λ (v : List ℕ). take a l ++ v) (take-append-drop m (drop a l))
    ∙ take-append-drop a l
