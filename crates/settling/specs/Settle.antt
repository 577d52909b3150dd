-- Settling: its refusals in the order of checking, its answer, and the bytes that it leaves in the two lent buffers. Assumes nothing.
use Rattle.std.specs.Prelude.{Result, Ok, Err, ℕ, Bool, true, false, ◌&&◌, List, ◌++◌, eqb, length, drop}
use Rattle.refusal.specs.declared.Refusal.{Refusal}
use Rattle.std.proofs.Math.Option.{Option, none, some}
use Rattle.refusal.specs.Outcome.{Outcome}
use Rattle.refusal.specs.declared.Refusal.TheVariants.{BufferLength, NoLayout}
use Rattle.refusal.specs.First.{◌or_else◌, unless}
use Rattle.refusal.specs.Lowest.{lowest}
use Rattle.inputs.specs.Outcome.{inputs_outcome}
use Rattle.table.specs.Bytes.{zeroed}
use Rattle.laid_out.specs.LaidOut.{laid_out, can_be_laid}
use Rattle.maker.specs.Make.{closings_outcome}

-- The bytes of the lent plan buffer, which has room for every plan, and of the lent scratch, a word of 8 bytes for each row.
abbrev pub laid_out_length : ℕ
laid_out_length = 16680

abbrev pub scratch_length : ℕ
scratch_length = 2048

-- nothing is refused
abbrev pub is_clear : Outcome → Bool
is_clear (Ok _) = true
is_clear (Err r) = false

module _ (rule plan : List ℕ) where
  -- The plan can be written with n passes laid out, and every part closes on it: the maker would not answer 14.
  unfoldable pub settles_after : ℕ → Bool
  settles_after n = can_be_laid plan n && is_clear (closings_outcome rule (laid_out plan n))

  -- The fewest passes after which it does. A cycle has a row, so that 256 passes are more than 256 rows.
  unfoldable pub fewest_passes : Option ℕ
  fewest_passes = lowest settles_after 256

-- 15, when no number of passes works
abbrev pub laid_by : Option ℕ → Result ℕ Refusal
laid_by none = Err NoLayout
laid_by (some n) = Ok n

module _ (rule plan laid scratch : List ℕ) where
  -- 1 to 6, then 13, when one of the buffers has another length
  unfoldable pub lent_outcome : Outcome
  lent_outcome =
      inputs_outcome rule plan
      or_else unless (eqb (length laid) laid_out_length) BufferLength
      or_else unless (eqb (length scratch) scratch_length) BufferLength

  -- the number of passes laid out, or the first refusal
  unfoldable pub answered : Outcome → Result ℕ Refusal
  answered (Ok _) = laid_by (fewest_passes rule plan)
  answered (Err r) = Err r

  unfoldable pub settle_of : Result ℕ Refusal
  settle_of = answered lent_outcome

  -- The plan buffer afterwards: the new plan at its front, and the bytes behind that as they were; on every refusal, as it was.
  unfoldable pub laid_with : Result ℕ Refusal → List ℕ
  laid_with (Ok n) = laid_out plan n ++ drop (length (laid_out plan n)) laid
  laid_with (Err r) = laid

  unfoldable pub laid_after : List ℕ
  laid_after = laid_with settle_of

  -- The scratch afterwards: all zero bytes, after 15 too; on 1 to 6 and 13, as it was.
  unfoldable pub scratch_with : Outcome → List ℕ
  scratch_with (Ok _) = zeroed scratch
  scratch_with (Err r) = scratch

  unfoldable pub scratch_after : List ℕ
  scratch_after = scratch_with lent_outcome
