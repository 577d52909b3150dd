-- A sheet after a part was written into it: its sizes, the part's bytes, and all others. Assumes nothing.
use Prim.Native.Nat.{ℕ, ◌+◌, ◌*◌, ◌≤◌, ◌<◌}
use native.Mathlib.Omega.{arith}
use mathlib.Core.Path.{◌≡◌, sym, ap₂, ◌∙◌}
use mathlib.Core.List.{List}
use mathlib.Core.Bool.{true}
use mathlib.Core.Logic.{◌⊎◌, inl, inr}
use lib.ListN.{length, get_or, take, drop, set, length-set}
use lib.Seq.{get_or-set_same, get_or-set_other}
use Rattle.fields.specs.LittleEndian.{number_at}
use Rattle.fields.proofs.Widths.{number2}
use Rattle.cltlb.specs.declared.Part.{Part}
use Rattle.rule.specs.Layout.{part_count, channel_count, kind_byte, kind_place, operand_place, sizes_fit}
use Rattle.rule.specs.Operands.{operand_bytes}
use Rattle.rule.specs.Kinds.{kind_of, operand_of}
use Rattle.rule.specs.Put.{written}
use Rattle.rule.proofs.Overwriting.{overwritten_length}
use Rattle.rule.proofs.Overwritten.{inside, before, behind}
use Rattle.rule.proofs.OperandsWritten.{operand_length}
use Rattle.rule.proofs.SizesKnown.{operand_inside}

module _ (s : List ℕ) (n : ℕ) (p : Part) (fit : sizes_fit s ≡ true) (present : n < part_count s) where
  room : operand_place (part_count s) n + 12 ≤ length (set s (kind_place n) (kind_of p))
  room = rw length-set (operand_inside s fit n present)

  kind_first : kind_place n < operand_place (part_count s) n
  unfolding kind_place operand_place
  kind_first = omega arith

  pub written_length : length (written s n p) ≡ length s
  unfolding written
  written_length =
      overwritten_length (set s (kind_place n) (kind_of p)) (operand_bytes (operand_of p)) (operand_place (part_count s) n)
      (omega (arith, room, operand_length (operand_of p)))
      ∙ length-set s (kind_place n) (kind_of p)

  pub written_kind : kind_byte (written s n p) n ≡ kind_of p
  unfolding written kind_byte
  written_kind =
      before (set s (kind_place n) (kind_of p)) (operand_bytes (operand_of p)) (operand_place (part_count s) n) (omega (arith, room)) (kind_place n) kind_first
      ∙ get_or-set_same s (kind_place n) (kind_of p) 0 (omega (arith, kind_first, operand_inside s fit n present))

  pub written_operand : take 12 (drop (operand_place (part_count s) n) (written s n p)) ≡ operand_bytes (operand_of p)
  unfolding written
  written_operand =
      inside (set s (kind_place n) (kind_of p)) (operand_bytes (operand_of p)) (operand_place (part_count s) n) (omega (arith, room)) 12 (operand_length (operand_of p))

  -- Every byte but the kind byte and the twelve of the operand keeps its value.
  pub written_elsewhere : (i : ℕ) → (i ≡ kind_place n → ⊥) → (i < operand_place (part_count s) n) ⊎ (operand_place (part_count s) n + 12 ≤ i)
      → get_or (written s n p) i 0 ≡ get_or s i 0
  unfolding written
  written_elsewhere i other (inl h) =
      before (set s (kind_place n) (kind_of p)) (operand_bytes (operand_of p)) (operand_place (part_count s) n) (omega (arith, room)) i h
      ∙ get_or-set_other s (kind_place n) i (kind_of p) 0 other
  written_elsewhere i other (inr h) =
      behind (set s (kind_place n) (kind_of p)) (operand_bytes (operand_of p)) (operand_place (part_count s) n) (omega (arith, room)) i
      (omega (arith, operand_length (operand_of p)))
      ∙ get_or-set_other s (kind_place n) i (kind_of p) 0 other

  -- the sizes stand before all that is written
  front : (i : ℕ) → i < 4 → get_or (written s n p) i 0 ≡ get_or s i 0
  unfolding kind_place operand_place
  front i h = written_elsewhere i (λ e. absurd (omega arith)) (inl (omega arith))

  size_kept : (at : ℕ) → at < 3 → number_at 2 (written s n p) at ≡ number_at 2 s at
  size_kept at h =
      number2 (written s n p) at
      ∙ ap₂ (λ (x y : ℕ). x + 256 * y) (front at (omega arith)) (front (at + 1) (omega arith))
      ∙ sym (number2 s at)

  pub written_parts : part_count (written s n p) ≡ part_count s
  unfolding part_count
  written_parts = size_kept 0 (omega arith)

  pub written_channels : channel_count (written s n p) ≡ channel_count s
  unfolding channel_count
  written_channels = size_kept 2 (omega arith)

  pub written_sizes : sizes_fit (written s n p) ≡ true
  unfolding sizes_fit
  written_sizes = rw (written_length, written_parts, written_channels) fit
