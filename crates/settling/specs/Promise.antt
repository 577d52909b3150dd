-- What settling promises, on all inputs: of its answer, and of the bytes of both lent buffers before and after. Assumes nothing.
use Rattle.std.specs.Prelude.{Result, Ok, Err, ℕ, ◌+◌, ◌*◌, ◌≤◌, ◌<◌, ◌≡◌, Bool, true, List, ◌↔◌, ℤ, pos, length}
use Rattle.refusal.specs.declared.Refusal.{Refusal}
use Rattle.refusal.specs.Outcome.{unrefused}
use Rattle.cltlb.specs.Nesting.{deepest}
use Rattle.refusal.specs.declared.Refusal.TheVariants.{NoLayout}
use Rattle.rule.specs.Layout.{part_count, channel_count}
use Rattle.rule.specs.Take.{views_of}
use Rattle.rule.specs.Sheet.{sheet_outcome}
use Rattle.plan.specs.Layout.{channels, start_rows, cycle_rows, lead_rows, rows, top_of, stored_reading, drift_of}
use Rattle.plan.specs.Refusals.{plan_outcome}
use Rattle.plan.specs.Run.{reading_at, run_of}
use Rattle.laid_out.specs.LaidOut.{rows_after, laid_out, can_be_laid}
use Rattle.marks.specs.Meaning.{Settled}
use Rattle.maker.specs.Make.{make_of}
use Rattle.settling.specs.Settle.{laid_out_length, scratch_length, settle_of, laid_after, scratch_after}

-- On the layout of n passes every part of the rule has, on each cycle row, the same published truth on all passes, without end.
unfoldable pub SettledAfter : List ℕ → List ℕ → ℕ → Type 0
SettledAfter rule plan n = Settled (views_of rule) (part_count rule) (laid_out plan n)

-- n passes are enough, and no fewer are.
pub record FewestSettle (rule plan : List ℕ) (n : ℕ) : Type 0 where
  pub enough : SettledAfter rule plan n
  pub none_fewer : (m : ℕ) → m < n → ¬ SettledAfter rule plan m

-- All drifts are 0.
unfoldable pub NoDrift : List ℕ → Type 0
NoDrift plan = (row channel : ℕ) → row < rows plan → channel < channels plan → drift_of plan row channel ≡ pos 0

-- 4 plus the deepest nesting of Y, Z, S and T, over all parts
unfoldable pub most_passes : List ℕ → ℕ
most_passes rule = 4 + deepest (views_of rule) (part_count rule)

-- The rule, the plan and the buffers clear refusals 1 to 6 and 13.
pub record Lent (rule plan laid scratch : List ℕ) : Type 0 where
  pub sheet : sheet_outcome rule ≡ unrefused
  pub plan_clear : plan_outcome (channel_count rule) plan ≡ unrefused
  pub plan_buffer : length laid ≡ laid_out_length
  pub scratch_buffer : length scratch ≡ scratch_length

-- A prime marks what a buffer holds afterwards.
pub record SettlePromise (rule plan laid scratch laid' scratch' : List ℕ) (answer : Result ℕ Refusal) : Type 0 where
  -- the answer is the first refusal that applies, or the number of passes laid out
  pub is_settle : answer ≡ settle_of rule plan laid scratch
  -- the plan buffer is as it was, or holds the new plan at its front
  pub plan_bytes : laid' ≡ laid_after rule plan laid scratch
  -- the scratch is as it was, or all zero bytes
  pub scratch_bytes : scratch' ≡ scratch_after rule plan laid scratch
  -- the new plan clears refusals 4 to 6 for the rule,
  pub clears : (n : ℕ) → answer ≡ Ok n → plan_outcome (channel_count rule) (laid_out plan n) ≡ unrefused
  -- has as many channels and cycle rows as the first, and n passes of the cycle as start rows more,
  pub laid_passes : (n : ℕ) → answer ≡ Ok n
      → (channels (laid_out plan n) ≡ channels plan)
      × (cycle_rows (laid_out plan n) ≡ cycle_rows plan)
      × (start_rows (laid_out plan n) ≡ start_rows plan + n * cycle_rows plan)
  -- and has the same reading at every position and channel as the first, the exact value, also where it is pinned,
  pub same_reading : (n : ℕ) → answer ≡ Ok n → (channel : ℕ) → channel < channels plan → (t : ℕ) → reading_at (laid_out plan n) channel t ≡ reading_at plan channel t
  -- the same lead-in rows with the same readings,
  pub same_lead : (n : ℕ) → answer ≡ Ok n
      → (lead_rows (laid_out plan n) ≡ lead_rows plan)
      × ((k channel : ℕ) → k < lead_rows plan → channel < channels plan → stored_reading (laid_out plan n) k channel ≡ stored_reading plan k channel)
  -- and the same tops,
  pub same_tops : (n : ℕ) → answer ≡ Ok n → (channel : ℕ) → channel < channels plan → top_of (laid_out plan n) channel ≡ top_of plan channel
  -- so that the same is seen at every position, before the start too
  pub same_run : (n : ℕ) → answer ≡ Ok n → (channel : ℕ) → channel < channels plan → (t : ℤ) → run_of (laid_out plan n) channel t ≡ run_of plan channel t
  -- its passes are the fewest after which every part closes,
  pub fewest : (n : ℕ) → answer ≡ Ok n → FewestSettle rule plan n
  -- so that the maker makes marks for it;
  pub makes : (n : ℕ) → answer ≡ Ok n → (table : List ℕ)
      → length table ≡ 4 + part_count rule * rows (laid_out plan n) + 2 * part_count rule → (v : Bool) × (make_of rule (laid_out plan n) table ≡ Ok v)
  -- with none laid out it is the first plan
  pub copied : answer ≡ Ok 0 → laid_out plan 0 ≡ plan
  -- 15 exactly where no number works that keeps the rows at 256 or fewer and all readings in 32 bits
  pub refuses : Lent rule plan laid scratch → (answer ≡ Err NoLayout) ↔ ((n : ℕ) → can_be_laid plan n ≡ true → ¬ SettledAfter rule plan n)
  -- when all drifts are 0, the passes are at most 4 plus the deepest nesting,
  pub bound : NoDrift plan → (n : ℕ) → answer ≡ Ok n → n ≤ most_passes rule
  -- and 15 says that 256 rows are not enough for so many
  pub too_long : NoDrift plan → answer ≡ Err NoLayout → 256 < rows_after plan (most_passes rule)
