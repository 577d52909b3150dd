-- What is known of a sheet whose sizes fit. Assumes nothing.
use Rattle.std.specs.Prelude.{Some}
use Prim.Native.Nat.{ℕ, ◌+◌, ◌*◌, ◌≤◌, ◌<◌}
use native.Mathlib.Omega.{arith}
use mathlib.Core.Path.{◌≡◌}
use mathlib.Core.List.{List}
use mathlib.Core.Bool.{true, ◌&&◌, and-eq-true_iff}
use lib.Dec.{leb, eqb}
use lib.ListN.{length}
use borrow.Author.Tests.{leb-true, eqb-true}
use Rattle.rule.specs.Layout.{part_count, channel_count, operand_place, sizes_fit}
use Rattle.rule.specs.inner.Sizes.{sizes, sizes_of}
use Rattle.rule.proofs.SizesRead.{right_sizes}

module _ (s : List ℕ) (fit : sizes_fit s ≡ true) where
  pub sizes_known : (1 ≤ part_count s) × (part_count s ≤ 64) × (1 ≤ channel_count s) × (channel_count s ≤ 8) × (length s ≡ 4 + 13 * part_count s)
  unfolding sizes_fit
  sizes_known =
      let a = (and-eq-true_iff (leb 4 (length s)) _).0 fit in
      let b = (and-eq-true_iff (leb 1 (part_count s) && leb (part_count s) 64) _).0 a.1 in
      let c = (and-eq-true_iff (leb 1 (part_count s)) (leb (part_count s) 64)).0 b.0 in
      let d = (and-eq-true_iff (leb 1 (channel_count s) && leb (channel_count s) 8) (eqb (length s) (4 + 13 * part_count s))).0 b.1 in
      let e = (and-eq-true_iff (leb 1 (channel_count s)) (leb (channel_count s) 8)).0 d.0 in (
        leb-true 1 (part_count s) c.0,
        leb-true (part_count s) 64 c.1,
        leb-true 1 (channel_count s) e.0,
        leb-true (channel_count s) 8 e.1,
        eqb-true (length s) (4 + 13 * part_count s) d.1,
      )

  -- the twelve bytes of an operand lie in the sheet
  pub operand_inside : (n : ℕ) → n < part_count s → operand_place (part_count s) n + 12 ≤ length s
  unfolding operand_place
  operand_inside n h = omega (arith, sizes_known)

-- what is known of the sizes that were read
pub counts_known : (s : List ℕ) {n v : ℕ} → sizes_of s ≡ Some (sizes n v) → (1 ≤ n) × (n ≤ 64) × (1 ≤ v) × (v ≤ 8) × (length s ≡ 4 + 13 * n)
counts_known s e = let f = right_sizes s e in rw (f.1, f.2) (sizes_known s f.0)
