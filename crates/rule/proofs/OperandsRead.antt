-- The operand that twelve bytes stand for, by its shape. Assumes nothing.
use Rattle.std.specs.Prelude.{Some}
use Prim.Native.Nat.{ℕ, ◌+◌}
use mathlib.Core.Path.{◌≡◌}
use mathlib.Core.List.{List}
use mathlib.Core.Bool.{true}
use lib.ListN.{take, drop}
use lib.IntN.{ℤ}
use Rattle.fields.specs.LittleEndian.{number_at}
use Rattle.cltlb.specs.declared.Term.{Term}
use Rattle.cltlb.specs.declared.Term.TheVariants.{Reading}
use Rattle.rule.specs.declared.operands.Operand.TheVariants.{Terms, One, Two, Window, Pinned}
use Rattle.rule.specs.declared.operands.Shape.TheVariants as S
use Rattle.rule.specs.Terms.{term_at}
use Rattle.rule.specs.Operands.{all_zero, both_terms, window_over, pinned_over, operand_at}

module _ (s : List ℕ) (at : ℕ) where
  pub both_read : {a b : Term} → term_at s at ≡ Some a → term_at s (at + 6) ≡ Some b → Some (Terms a b) ≡ operand_at S.Comparison s at
  unfolding operand_at both_terms
  both_read e f = simp (e, f)

  pub one_read : {a : ℕ} → all_zero (take 10 (drop (at + 2) s)) ≡ true → a ≡ number_at 2 s at → Some (One a) ≡ operand_at S.NamesOne s at
  unfolding operand_at
  one_read z e = simp (z, e)

  pub two_read : {a b : ℕ} → all_zero (take 8 (drop (at + 4) s)) ≡ true → a ≡ number_at 2 s at → b ≡ number_at 2 s (at + 2) → Some (Two a b) ≡ operand_at S.NamesTwo s at
  unfolding operand_at
  two_read z e f = simp (z, e, f)

  pub window_read : {c from to : ℕ} {d : ℤ} → all_zero (take 2 (drop (at + 10) s)) ≡ true → term_at s at ≡ Some (Reading c d)
      → from ≡ number_at 2 s (at + 6) → to ≡ number_at 2 s (at + 8) → Some (Window c d from to) ≡ operand_at S.Window s at
  unfolding operand_at window_over
  window_read z r e f = simp (z, r, e, f)

  pub pinned_read : {c : ℕ} {d : ℤ} → all_zero (take 6 (drop (at + 6) s)) ≡ true → term_at s at ≡ Some (Reading c d)
      → Some (Pinned c d) ≡ operand_at S.Pinned s at
  unfolding operand_at pinned_over
  pinned_read z r = simp (z, r)
