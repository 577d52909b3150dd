-- The sizes of a sheet by the tests that the reader makes, one law for each way out. Assumes nothing.
use Rattle.std.specs.Prelude.{Some, None}
use Prim.Native.Nat.{ℕ, ◌+◌, ◌*◌, ◌≤◌, ◌<◌}
use mathlib.Core.Path.{◌≡◌, refl, ap}
use mathlib.Core.List.{List}
use mathlib.Core.Bool.{Bool, true, false, ◌&&◌}
use lib.Dec.{leb, eqb}
use lib.ListN.{length}
use native.Mathlib.Omega.{arith}
use borrow.Author.Tests.{le-leb, lt-leb}
use Rattle.fields.specs.LittleEndian.{number_at}
use Rattle.rule.specs.declared.sizes.Sizes.{Sizes}
use Rattle.rule.specs.Layout.{part_count, channel_count, sizes_fit}
use Rattle.rule.specs.inner.Sizes.{sizes, sizes_of}

module _ (sheet : List ℕ) where
  pub wrong : sizes_fit sheet ≡ false → None ≡ sizes_of sheet
  unfolding sizes_of
  wrong e = simp e

  pub short : length sheet < 4 → sizes_fit sheet ≡ false
  unfolding sizes_fit
  short h = simp (lt-leb _ _ h)

  module _ {n v : ℕ} (e : n ≡ number_at 2 sheet 0) (f : v ≡ number_at 2 sheet 2) (h : 4 ≤ length sheet) where
    -- the one test that is made of both sizes and the length
    pub tested : {b : Bool} → (leb 1 n && leb n 64) && ((leb 1 v && leb v 8) && eqb (length sheet) (4 + 13 * n)) ≡ b → sizes_fit sheet ≡ b
    unfolding sizes_fit part_count channel_count
    tested t = rw (le-leb 4 (length sheet) h, ← e, ← f) t

    pub counts : (leb 1 n && leb n 64) && ((leb 1 v && leb v 8) && eqb (length sheet) (4 + 13 * n)) ≡ true → Some (sizes n v) ≡ sizes_of sheet
    unfolding sizes_of part_count channel_count
    counts t = simp (tested t, e, f)

  -- what the sizes that were read say of the test
  pub wrong_sizes : sizes_of sheet ≡ None → sizes_fit sheet ≡ false
  unfolding sizes_of
  wrong_sizes e = go (sizes_fit sheet) refl
    where
      go : (b : Bool) → sizes_fit sheet ≡ b → b ≡ false
      go true f = let z : Some (sizes (part_count sheet) (channel_count sheet)) ≡ None = rw f at e in absurd (let w : ◌≡◌ {A = ℕ} 0 1 = cc in omega arith)
      go false f = refl

  pub right_sizes : {n v : ℕ} → sizes_of sheet ≡ Some (sizes n v) → (sizes_fit sheet ≡ true) × (n ≡ part_count sheet) × (v ≡ channel_count sheet)
  unfolding sizes_of
  right_sizes {n} {v} e = go (sizes_fit sheet) refl
    where
      go : (b : Bool) → sizes_fit sheet ≡ b → (b ≡ true) × (n ≡ part_count sheet) × (v ≡ channel_count sheet)
      go true f = let z : Some (sizes (part_count sheet) (channel_count sheet)) ≡ Some (sizes n v) = rw f at e in
          let w : sizes n v ≡ sizes (part_count sheet) (channel_count sheet) = cc in (refl, ap (λ (x : Sizes). x.parts) w, ap (λ (x : Sizes). x.channels) w)
      go false f = let z : None ≡ Some (sizes n v) = rw f at e in absurd (let w : ◌≡◌ {A = ℕ} 0 1 = cc in omega arith)
