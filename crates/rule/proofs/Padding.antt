-- Zero bytes, by the numbers that they are. Assumes nothing.
use Prim.Native.Nat.{ℕ, zero, suc, ◌+◌, ◌*◌, ◌≤◌, ◌<◌}
use native.Mathlib.Numerals.{add-one}
use native.Mathlib.Omega.{arith}
use mathlib.Core.Path.{◌≡◌, refl, sym, ap, ap₂, ◌∙◌}
use mathlib.Core.List.{List, [], ◌∷◌, ◌++◌}
use mathlib.Core.Bool.{Bool, true, false, ◌&&◌}
use lib.Dec.{eqb}
use lib.ListN.{length, get_or, take, drop}
use lib.Seq.{drop-cons, take-add, drop-drop}
use borrow.Author.Tests.{ne_eqb}
use Rattle.fields.specs.LittleEndian.{number_at}
use Rattle.rule.specs.Operands.{all_zero}

-- a number is zero where its lowest byte and all above it are
lowest_zero : (x y : ℕ) → eqb (x + 256 * y) 0 ≡ eqb x 0 && eqb y 0
lowest_zero zero zero = refl
lowest_zero zero (suc y) = ne_eqb (0 + 256 * suc y) 0 (λ e. omega arith) ∙ sym (ne_eqb (suc y) 0 (λ e. omega arith))
lowest_zero (suc x) y = ne_eqb (suc x + 256 * y) 0 (λ e. omega arith) ∙ sym (ap (λ (b : Bool). b && eqb y 0) (ne_eqb (suc x) 0 (λ e. omega arith)))

-- A field of any width is zero bytes where its number is zero.
field_zero : (w : ℕ) (s : List ℕ) (at : ℕ) → at + w ≤ length s → all_zero (take w (drop at s)) ≡ eqb (number_at w s at) 0
unfolding all_zero number_at
field_zero zero s at h = refl
field_zero (suc w) s at h =
    ap (λ (l : List ℕ). all_zero (take (suc w) l)) (drop-cons s at 0 (omega arith))
    ∙ ap (λ (b : Bool). eqb (get_or s at 0) 0 && b) (ap (λ (i : ℕ). all_zero (take w (drop i s))) (sym (add-one at)) ∙ field_zero w s (at + 1) (omega arith))
    ∙ sym (lowest_zero (get_or s at 0) (number_at w s (at + 1)))

both_zero : (a b : List ℕ) → all_zero (a ++ b) ≡ all_zero a && all_zero b
unfolding all_zero
both_zero [] b = refl
both_zero (x ∷ a) b = go (eqb x 0) (both_zero a b)
  where
    go : (z : Bool) → all_zero (a ++ b) ≡ all_zero a && all_zero b → z && all_zero (a ++ b) ≡ (z && all_zero a) && all_zero b
    go true e = e
    go false e = refl

module _ (s : List ℕ) where
  -- the bytes from a on, in two fields
  pub parted : (a n m : ℕ) → take (n + m) (drop a s) ≡ take n (drop a s) ++ take m (drop (a + n) s)
  parted a n m = take-add n m (drop a s) ∙ ap (λ (t : List ℕ). take n (drop a s) ++ take m t) (drop-drop n a s)

  fields_zero : (a n m : ℕ) → a + n + m ≤ length s → all_zero (take (n + m) (drop a s)) ≡ eqb (number_at n s a) 0 && all_zero (take m (drop (a + n) s))
  fields_zero a n m h =
      ap all_zero (parted a n m)
      ∙ both_zero (take n (drop a s)) (take m (drop (a + n) s))
      ∙ ap (λ (b : Bool). b && all_zero (take m (drop (a + n) s))) (field_zero n s a (omega arith))

  -- a number of four bytes by its halves, of which two bytes hold it where the upper is zero
  halves : (a : ℕ) → number_at 4 s a ≡ number_at 2 s a + 65536 * number_at 2 s (a + 1 + 1)
  unfolding number_at
  halves a = omega arith

  upper_zero : (a : ℕ) → number_at 4 s a < 65536 → number_at 2 s (a + 2) ≡ 0
  upper_zero a h =
      let two : a + 2 ≡ a + 1 + 1 = omega arith in
      let upper : number_at 2 s (a + 1 + 1) ≡ 0 = omega (arith, halves a) in
      ap (number_at 2 s) two ∙ upper

  module _ (at : ℕ) (long : at + 12 ≤ length s) where
    -- the eight zero bytes behind two names
    pub rest_zero : {x y : ℕ} → x ≡ number_at 4 s (at + 4) → y ≡ number_at 4 s (at + 8) → eqb x 0 && eqb y 0 ≡ all_zero (take 8 (drop (at + 4) s))
    rest_zero e f =
        let eight : at + 4 + 4 ≡ at + 8 = omega arith in
        sym (fields_zero (at + 4) 4 4 (omega arith)
        ∙ ap₂ ◌&&◌ (ap (λ (n : ℕ). eqb n 0) (sym e))
        (ap (λ (i : ℕ). all_zero (take 4 (drop i s))) eight ∙ field_zero 4 s (at + 8) (omega arith) ∙ ap (λ (n : ℕ). eqb n 0) (sym f)))

    -- the two behind a window
    pub last_zero : {x : ℕ} → x ≡ number_at 2 s (at + 10) → eqb x 0 ≡ all_zero (take 2 (drop (at + 10) s))
    last_zero e = ap (λ (n : ℕ). eqb n 0) e ∙ sym (field_zero 2 s (at + 10) (omega arith))

    -- the six behind a reading, where two bytes hold its channel
    pub six_zero : number_at 4 s (at + 2) < 65536 → all_zero (take 8 (drop (at + 4) s)) ≡ all_zero (take 6 (drop (at + 6) s))
    six_zero h =
        let four : at + 2 + 2 ≡ at + 4 = omega arith in
        let six : at + 4 + 2 ≡ at + 6 = omega arith in
        fields_zero (at + 4) 2 6 (omega arith)
        ∙ ap₂ ◌&&◌ (ap (λ (n : ℕ). eqb n 0) (ap (number_at 2 s) (sym four) ∙ upper_zero (at + 2) h)) (ap (λ (i : ℕ). all_zero (take 6 (drop i s))) six)

    -- the ten behind one
    pub more_zero : {x : ℕ} {r : Bool} → x ≡ number_at 2 s (at + 2) → r ≡ all_zero (take 8 (drop (at + 4) s)) → eqb x 0 && r ≡ all_zero (take 10 (drop (at + 2) s))
    more_zero e f =
        let four : at + 2 + 2 ≡ at + 4 = omega arith in
        sym (fields_zero (at + 2) 2 8 (omega arith)
        ∙ ap₂ ◌&&◌ (ap (λ (n : ℕ). eqb n 0) (sym e)) (ap (λ (i : ℕ). all_zero (take 8 (drop i s))) four ∙ sym f))
