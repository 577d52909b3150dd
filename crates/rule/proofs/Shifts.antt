-- A shift and its code. Assumes nothing.
use Prim.Native.Nat.{ℕ, suc, ◌+◌, ◌-◌, ◌≤◌, ◌<◌}
use native.Mathlib.Nat.{add_comm}
use native.Mathlib.Omega.{arith}
use mathlib.Core.Path.{◌≡◌, refl, sym, ap}
use mathlib.Core.Bool.{Bool, true, false, cond, not, ◌&&◌}
use lib.Dec.{ltb, leb}
use lib.IntN.{ℤ, pos, negsuc, sub_ℕ, ◌+ℤ◌}
use lib.Signed.{mag, lt_z, le_z}
use borrow.Author.Tests.{ltb-true, ltb-false, leb-true, leb-false, le-ltb, lt-ltb, le-leb, lt-leb}
use Rattle.cltlb.specs.Fits.{shift_fits}
use Rattle.rule.specs.Terms.{shift_of, code_of}

-- a difference of naturals below a bound is in the range that the bound gives
by_test : (t : Bool) (a b bound : ℕ) → a < bound → b ≤ bound → mag (cond t (negsuc (b - suc a)) (pos (a - b))) < bound
by_test true a b bound h k = omega arith
by_test false a b bound h k = omega arith

pub mag_sub : (a b bound : ℕ) → a < bound → b ≤ bound → mag (sub_ℕ a b) < bound
mag_sub a b bound h k = by_test (ltb a b) a b bound h k

-- what is known of a shift that fits
pub record Coded (d : ℤ) : Type 0 where
  pub sum : d +ℤ pos 4 ≡ pos (code_of d)
  pub small : code_of d ≤ 8
  pub back : shift_of (code_of d) ≡ d

kept : (b : Bool) → not b && true ≡ true → b ≡ false
kept true h = sym h
kept false h = refl

pub coded : (d : ℤ) → shift_fits d ≡ true → Coded d
unfolding shift_fits code_of shift_of
coded (pos n) h =
    let k : n ≤ 4 = leb-true n 4 h in
    record { sum = ap pos (add_comm n 4); small = omega arith; back = simp (le-ltb (4 + n) 4 (omega arith)) (ap pos (omega arith)) }
coded (negsuc n) h =
    let k : n ≤ 3 = ltb-false 3 n (kept (ltb 3 n) h) in
    record {
      sum = simp (le-ltb 4 (suc n) (omega arith)) (ap pos (omega arith));
      small = omega arith;
      back = simp (lt-ltb (3 - n) 4 (omega arith)) (ap negsuc (omega arith));
    }

-- A shift fits where its code is at most 8.
pub code_tested : (c : ℕ) → shift_fits (shift_of c) ≡ leb c 8
unfolding shift_fits shift_of
code_tested c = go (ltb c 4) refl (leb c 8) refl
  where
    go : (b : Bool) → ltb c 4 ≡ b → (r : Bool) → leb c 8 ≡ r
        → not (lt_z (cond b (negsuc (4 - suc c)) (pos (c - 4))) (negsuc 3)) && le_z (cond b (negsuc (4 - suc c)) (pos (c - 4))) (pos 4) ≡ r
    go true e true f = simp (le-ltb 3 (4 - suc c) (omega arith))
    go true e false f = absurd (omega (arith, ltb-true c 4 e, leb-false c 8 f))
    go false e true f = let h : c ≤ 8 = leb-true c 8 f in simp (le-leb (c - 4) 4 (omega arith))
    go false e false f = let h : 8 < c = leb-false c 8 f in simp (lt-leb (c - 4) 4 (omega arith))
