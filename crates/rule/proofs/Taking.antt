-- Take by the tests that it makes, one law for each way out. Assumes nothing.
use Rattle.std.specs.Prelude.{Ok, Err, Option, Some, None}
use Prim.Native.Nat.{ℕ, ◌+◌, ◌*◌, ◌≤◌, ◌<◌}
use native.Mathlib.Omega.{arith}
use native.Mathlib.Decide.{dec_lt}
use mathlib.Core.Path.{◌≡◌, refl, sym, ap, ◌∙◌, subst}
use mathlib.Core.Logic.{by_cases}
use mathlib.Core.List.{List}
use mathlib.Core.Bool.{Bool, true, false, not, cond, ◌&&◌, and-eq-true_iff}
use lib.ListN.{get_or}
use borrow.Author.Tests.{le-leb, lt-leb, not-true}
use Rattle.refusal.specs.declared.Refusal.TheVariants.{RuleSizes, Kind, Absent}
use Rattle.refusal.specs.declared.Refusal.TheVariants as N
use Rattle.cltlb.specs.declared.Part.{Part}
use Rattle.cltlb.specs.declared.Atom.TheVariants as atom
use Rattle.cltlb.specs.declared.Operator.TheVariants as operator
use Rattle.cltlb.specs.declared.View.{View}
use Rattle.cltlb.specs.declared.View.TheVariants as view
use Rattle.rule.specs.declared.operands.Operand.{Operand}
use Rattle.rule.specs.declared.operands.Shape.{Shape}
use Rattle.rule.specs.Layout.{kind_byte, kind_place, operand_place}
use Rattle.rule.specs.inner.Known.{AllKnown}
use Rattle.rule.specs.inner.Sizes.{sizes, sizes_of}
use Rattle.cltlb.specs.Views.{view_of}
use Rattle.cltlb.specs.Fits.{atom_fits, names_lower, view_fits}
use Rattle.rule.specs.Operands.{operand_at}
use Rattle.rule.specs.Kinds.{operand_in, shape_of, is_unknown, kind_unknown, part_of}
use Rattle.rule.specs.Take.{taken_operand, take_of}
use Rattle.rule.specs.Sheet.{is_refused}
use Rattle.rule.specs.inner.Sound.{operand_fits, operand_sound, IsPart}
use Rattle.rule.proofs.SizesRead.{wrong_sizes, right_sizes}
use Rattle.rule.proofs.KindTables.{operand_back}

-- the reader's test of a kind byte is the definition's
pub kind_tested : (s : List ℕ) (n : ℕ) {k : Shape} {r b : Bool} → r ≡ is_unknown k → k ≡ shape_of (get_or s (4 + n) 0) → r ≡ b → kind_unknown s n ≡ b
unfolding kind_unknown kind_byte kind_place
kind_tested s n e f h = sym (ap is_unknown f) ∙ sym e ∙ h

-- One more kind byte in a sweep over all.
pub known_next : (s : List ℕ) (n : ℕ) {all b : Bool} → (all ≡ true → AllKnown s n) → kind_unknown s n ≡ b → all && not b ≡ true → AllKnown s (n + 1)
known_next s n {all} {b} known e h i l =
    let p = (and-eq-true_iff all (not b)).0 h in
    by_cases (dec_lt i n) (known p.0 i) (λ m. subst (λ (k : ℕ). kind_unknown s k ≡ false) (omega arith) (e ∙ not-true b p.1))

module _ (s : List ℕ) (n : ℕ) where
  pub take_sizes : sizes_of s ≡ None → Err RuleSizes ≡ take_of s n
  unfolding take_of
  take_sizes e = simp (wrong_sizes s e)

  module _ {p v : ℕ} (e : sizes_of s ≡ Some (sizes p v)) where
    pub take_absent : p ≤ n → Err Absent ≡ take_of s n
    unfolding take_of
    take_absent h = let f = right_sizes s e in simp (f.0, ← f.1, le-leb _ _ h)

    pub take_unknown : n < p → kind_unknown s n ≡ true → Err (Kind n) ≡ take_of s n
    unfolding take_of
    take_unknown h u = let f = right_sizes s e in simp (f.0, ← f.1, lt-leb _ _ h, u)

    -- what is taken of a known kind, by the operand that the bytes stand for
    pub take_known : n < p → kind_unknown s n ≡ false → {k : Shape} → k ≡ shape_of (get_or s (4 + n) 0)
        → taken_operand v n (get_or s (4 + n) 0) (operand_at k s (4 + p + 12 * n)) ≡ take_of s n
    unfolding take_of kind_byte kind_place operand_place
    take_known h u g = let f = right_sizes s e in simp (f.0, ← f.1, ← f.2, lt-leb _ _ h, u, g)

-- what is made of a kind byte and an operand fits where the operand does
view_operand : (v n : ℕ) (x : View) → view_fits v n x ≡ operand_fits v n (operand_in x)
unfolding view_fits atom_fits names_lower operand_fits
view_operand v n (view.Atom (atom.Less x y)) = refl
view_operand v n (view.Atom (atom.Equal x y)) = refl
view_operand v n (view.Atom (atom.Window channel shift from to)) = refl
view_operand v n (view.Atom (atom.Pinned channel shift)) = refl
view_operand v n (view.Operator (operator.One o a)) = refl
view_operand v n (view.Operator (operator.Two o a b)) = refl

module _ (v n k : ℕ) where
  part_fits : (x : Operand) → view_fits v n (view_of (part_of k x)) ≡ operand_fits v n x
  part_fits x = view_operand v n (view_of (part_of k x)) ∙ ap (operand_fits v n) (operand_back k x)

  -- by the test whether the bytes are sound: the part of the operand is taken,
  pub sound_operand : (x : Option Operand) {p : Part} {r : Bool} → r ≡ operand_sound v n x → r ≡ true → IsPart k x p → Ok p ≡ taken_operand v n k x
  unfolding taken_operand operand_sound IsPart
  sound_operand (Some x) d e f = simp (part_fits x, ← d, e, f)
  sound_operand None d e f = absurd (let z : ◌≡◌ {A = ℕ} 0 1 = cc in omega arith)

  -- or it is refused by 3.
  pub unsound_operand : (x : Option Operand) {r : Bool} → r ≡ operand_sound v n x → r ≡ false → Err (N.Operand n) ≡ taken_operand v n k x
  unfolding taken_operand operand_sound
  unsound_operand (Some x) d e = simp (part_fits x, ← d, e)
  unsound_operand None d e = refl

  pub refused_operand : (x : Option Operand) → is_refused (taken_operand v n k x) ≡ not (operand_sound v n x)
  unfolding taken_operand operand_sound is_refused
  refused_operand (Some x) = rw (part_fits x) (go (operand_fits v n x))
    where
      go : (b : Bool) → is_refused (cond b (Ok (part_of k x)) (Err (N.Operand n))) ≡ not b
      go true = refl
      go false = refl
  refused_operand None = refl
