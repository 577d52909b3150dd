-- The number of an argument, by the tests that the reader makes. Assumes nothing.
use Prim.Native.Nat.{ℕ, ◌+◌, ◌≤◌, ◌<◌}
use native.Mathlib.Numerals.{add-one}
use native.Mathlib.Omega.{arith}
use mathlib.Core.Path.{◌≡◌, refl}
use mathlib.Core.Bool.{true, false}
use mathlib.Core.List.{List, [], ◌∷◌}
use lib.ListN.{length, get_or, drop, drop_of_length-le}
use lib.Seq.{drop-cons}
use Rattle.command.specs.Argument.{with_digit, is_digit, with_digits, argument_of}

module _ (text : List ℕ) (n i : ℕ) where
  module _ (h : i < length text) where
    pub other_byte : is_digit (get_or text i 0) ≡ false → with_digits n (drop i text) ≡ 65536
    unfolding with_digits
    other_byte e = rw (drop-cons text i 0 h, e) refl

    pub next_digit : is_digit (get_or text i 0) ≡ true → with_digits n (drop i text) ≡ with_digits (with_digit n (get_or text i 0)) (drop (i + 1) text)
    unfolding with_digits
    next_digit e = rw (drop-cons text i 0 h, e, add-one) refl

  pub last_digit : length text ≤ i → with_digits n (drop i text) ≡ n
  unfolding with_digits
  last_digit h = rw (drop_of_length-le text h) refl

pub no_text : (text : List ℕ) → length text ≡ 0 → argument_of text ≡ 65536
unfolding argument_of
no_text [] e = refl
no_text (b ∷ bs) e = absurd (omega arith)

pub some_text : (text : List ℕ) → (length text ≡ 0 → ⊥) → argument_of text ≡ with_digits 0 text
unfolding argument_of
some_text [] e = absurd (e refl)
some_text (b ∷ bs) e = refl
