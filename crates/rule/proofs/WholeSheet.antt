-- The whole sheet: refusals 1, 2 and 3 by the tests that the check makes, and what a sheet that clears them is known for.
-- Assumes nothing.
use Rattle.std.specs.Prelude.{Ok, Some, None, Err}
use Prim.Native.Nat.{ℕ, ◌+◌, ◌*◌, ◌≤◌, ◌<◌}
use native.Mathlib.Omega.{arith}
use mathlib.Core.Path.{◌≡◌, sym, ap, ap₂, ◌∙◌, subst}
use mathlib.Core.List.{List}
use mathlib.Core.Bool.{Bool, false, not}
use lib.ListN.{length, get_or}
use borrow.Author.Tests.{lt-leb}
use Rattle.refusal.specs.Outcome.{Outcome, unrefused}
use Rattle.refusal.specs.declared.Refusal.{Refusal}
use Rattle.refusal.specs.declared.Refusal.TheVariants.{RuleSizes, Kind}
use Rattle.refusal.specs.declared.Refusal.TheVariants as N
use Rattle.refusal.specs.First.{◌or_else◌, unless, at_lowest}
use Rattle.refusal.proofs.First.{at_lowest_clear}
use Rattle.rule.specs.declared.operands.Shape.{Shape}
use Rattle.rule.specs.Layout.{part_count, channel_count, kind_place, kind_byte, operand_place}
use Rattle.rule.specs.inner.Sizes.{sizes, sizes_of}
use Rattle.rule.specs.inner.Read.{counts_unless, sheet_read}
use Rattle.rule.specs.Operands.{operand_at}
use Rattle.rule.specs.Kinds.{shape_of, is_unknown, kind_unknown}
use Rattle.rule.specs.Take.{take_of}
use Rattle.rule.specs.inner.Known.{KindsKnown}
use Rattle.rule.specs.inner.Sound.{operand_sound}
use Rattle.rule.specs.Sheet.{untakeable, sheet_outcome}
use Rattle.rule.proofs.SizesRead.{wrong_sizes, right_sizes}
use Rattle.rule.proofs.SizesKnown.{sizes_known}
use Rattle.rule.proofs.Taking.{refused_operand}

module _ (s : List ℕ) (parts : ℕ) (known : KindsKnown s parts) where
  -- what is known of a sheet where all kinds are
  pub known_length : (parts ≤ 64) × (length s ≡ 4 + 13 * parts)
  unfolding KindsKnown
  known_length = let z = sizes_known s known.0 in rw known.1 (z.1, z.4)

  pub known_channels : {v : ℕ} → v ≡ channel_count s → v ≤ 8
  unfolding KindsKnown
  known_channels e = rw e (sizes_known s known.0).3

  pub known_shape : (n : ℕ) → n < parts → {k : Shape} → k ≡ shape_of (get_or s (4 + n) 0) → is_unknown k ≡ false
  unfolding KindsKnown kind_unknown kind_byte kind_place
  known_shape n h e = ap is_unknown e ∙ known.2 n h

  -- A part of a known kind cannot be taken where its operand is not sound.
  pub operand_tested : {v : ℕ} → v ≡ channel_count s → (n : ℕ) → n < parts → {k : Shape} {r b : Bool}
      → k ≡ shape_of (get_or s (4 + n) 0) → r ≡ operand_sound v n (operand_at k s (4 + parts + 12 * n)) → not r ≡ b → untakeable s n ≡ b
  unfolding untakeable take_of KindsKnown kind_byte kind_place operand_place
  operand_tested c n h e f g =
      let low : n < part_count s = omega (arith, known.1) in
      simp (known.0, lt-leb _ _ low, known.2 n h)
      (refused_operand (channel_count s) n (get_or s (4 + n) 0) (operand_at (shape_of (get_or s (4 + n) 0)) s (4 + part_count s + 12 * n))
      ∙ rw (← known.1, ← c, ← e) (ap not (sym f) ∙ g))

module _ (s : List ℕ) where
  pub sheet_sizes : sizes_of s ≡ None → Err RuleSizes ≡ sheet_outcome s
  unfolding sheet_outcome unless ◌or_else◌
  sheet_sizes e = simp (wrong_sizes s e)

  module _ {p v : ℕ} (e : sizes_of s ≡ Some (sizes p v)) {x : Outcome} (f : x ≡ at_lowest (kind_unknown s) p Kind) where
    pub sheet_kinds : {r : Refusal} → x ≡ Err r → x ≡ sheet_outcome s
    unfolding sheet_outcome unless ◌or_else◌
    sheet_kinds {r} g = let z = right_sizes s e in let w : at_lowest (kind_unknown s) (part_count s) Kind ≡ Err r = subst (λ (m : ℕ). at_lowest (kind_unknown s) m Kind ≡ Err r) z.1 (sym f ∙ g) in g ∙ simp (z.0, w)

    pub sheet_operands : x ≡ unrefused → {y : Outcome} → y ≡ at_lowest (untakeable s) p N.Operand → y ≡ sheet_outcome s
    unfolding sheet_outcome unless ◌or_else◌
    sheet_operands g {y} d =
        let z = right_sizes s e in
        let w : at_lowest (kind_unknown s) (part_count s) Kind ≡ unrefused = subst (λ (m : ℕ). at_lowest (kind_unknown s) m Kind ≡ unrefused) z.1 (sym f ∙ g) in
        let u : y ≡ at_lowest (untakeable s) (part_count s) N.Operand = subst (λ (m : ℕ). y ≡ at_lowest (untakeable s) m N.Operand) z.1 d in
        u ∙ simp (z.0, w)

    pub kinds_known : x ≡ unrefused → KindsKnown s p
    unfolding KindsKnown
    kinds_known g = let z = right_sizes s e in (z.0, z.1, (at_lowest_clear (kind_unknown s) p Kind).0 (sym f ∙ g))

-- what the check answers, by the first outcome that refuses, or where none does
module _ (s : List ℕ) {x : Outcome} (e : x ≡ sheet_outcome s) where
  pub read_refused : {r : Refusal} → x ≡ Err r → Err r ≡ sheet_read s
  unfolding sheet_read counts_unless
  read_refused g = ap (λ (y : Outcome). counts_unless y s) (sym g ∙ e)

  pub read_counts : {p v : ℕ} → sizes_of s ≡ Some (sizes p v) → x ≡ unrefused → Ok (sizes p v) ≡ sheet_read s
  unfolding sheet_read counts_unless
  read_counts f g = let z = right_sizes s f in ap₂ (λ n v. Ok (sizes n v)) z.1 z.2 ∙ ap (λ (y : Outcome). counts_unless y s) (sym g ∙ e)
