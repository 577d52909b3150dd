-- Put and take undo each other, and put leaves every other byte. Assumes nothing.
use Rattle.std.specs.Prelude.{Ok}
use Rattle.refusal.specs.Outcome.{unrefused}
use Prim.Native.Nat.{ℕ, ◌+◌, ◌≤◌, ◌<◌}
use mathlib.Core.Path.{◌≡◌, sym, ap, ◌∙◌, subst}
use mathlib.Core.List.{List}
use mathlib.Core.Logic.{◌⊎◌}
use lib.ListN.{length, get_or, set}
use lib.Seq.{set-get_or}
use Rattle.fields.specs.inner.Ranges.{Bytes}
use Rattle.cltlb.specs.declared.Part.{Part}
use Rattle.rule.specs.Layout.{part_count, kind_byte, kind_place, operand_place}
use Rattle.rule.specs.Operands.{operand_bytes}
use Rattle.rule.specs.Kinds.{operand_of}
use Rattle.rule.specs.Take.{take_of}
use Rattle.rule.specs.Put.{put_outcome, overwritten, written, after_put, put_bytes}
use Rattle.rule.proofs.Laid.{Words, Laid}
use Rattle.rule.proofs.Putting.{put_clear}
use Rattle.rule.proofs.Overwritten.{same_bytes}
use Rattle.rule.proofs.OperandsWritten.{operand_length}
use Rattle.rule.proofs.Written.{written_length, written_kind, written_operand, written_elsewhere, written_parts, written_channels, written_sizes}
use Rattle.rule.proofs.TakenIsLaid.{taken_laid, laid_taken}

module _ (s : List ℕ) (n : ℕ) (p : Part) where
  put_writes : put_outcome s n p ≡ unrefused → put_bytes s n p ≡ written s n p
  unfolding put_bytes after_put
  put_writes e = simp e

  -- A part that is put unrefused lies on the sheet then,
  pub put_laid : put_outcome s n p ≡ unrefused → Laid (put_bytes s n p) n p
  put_laid e =
      let c = (put_clear s n p).0 e in
      let parts : part_count (written s n p) ≡ part_count s = written_parts s n p c.0 c.1 in
      subst (λ (t : List ℕ). Laid t n p) (sym (put_writes e)) (record {
        sizes = written_sizes s n p c.0 c.1;
        present = rw parts c.1;
        kind = written_kind s n p c.0 c.1;
        bytes = rw parts (written_operand s n p c.0 c.1);
        fits = rw (written_channels s n p c.0 c.1) c.2;
      })

  -- and is taken as the same part.
  pub put_then_take : put_outcome s n p ≡ unrefused → Words p → take_of (put_bytes s n p) n ≡ Ok p
  put_then_take e w = laid_taken (put_bytes s n p) n p (put_laid e) w

  rewritten : Laid s n p → written s n p ≡ s
  unfolding written kind_byte
  rewritten d =
      ap (λ (k : ℕ). overwritten (set s (kind_place n) k) (operand_place (part_count s) n) (operand_bytes (operand_of p))) (sym d.kind)
      ∙ ap (λ (t : List ℕ). overwritten t (operand_place (part_count s) n) (operand_bytes (operand_of p))) (set-get_or s (kind_place n) 0)
      ∙ same_bytes s (operand_bytes (operand_of p)) (operand_place (part_count s) n) 12 (operand_length (operand_of p)) d.bytes

  -- A part that is taken and put back in its place leaves the same bytes.
  pub take_then_put : Bytes s → take_of s n ≡ Ok p → (put_outcome s n p ≡ unrefused) × (put_bytes s n p ≡ s)
  take_then_put b e =
      let d = (taken_laid s n p b e).0 in
      let clear : put_outcome s n p ≡ unrefused = (put_clear s n p).1 (d.sizes, d.present, d.fits) in
      (clear, put_writes clear ∙ rewritten d)

  -- A put leaves every byte but the kind byte and the twelve bytes of the operand,
  pub put_elsewhere : put_outcome s n p ≡ unrefused → (i : ℕ) → (i ≡ kind_place n → ⊥) → (i < operand_place (part_count s) n) ⊎ (operand_place (part_count s) n + 12 ≤ i)
      → get_or (put_bytes s n p) i 0 ≡ get_or s i 0
  put_elsewhere e i other out =
      let c = (put_clear s n p).0 e in ap (λ (t : List ℕ). get_or t i 0) (put_writes e) ∙ written_elsewhere s n p c.0 c.1 i other out

  -- and the length.
  pub put_length : put_outcome s n p ≡ unrefused → length (put_bytes s n p) ≡ length s
  put_length e = let c = (put_clear s n p).0 e in ap length (put_writes e) ∙ written_length s n p c.0 c.1
