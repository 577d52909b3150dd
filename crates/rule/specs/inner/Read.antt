-- A sheet as the check reads it: its counts where nothing is refused. Assumes nothing.
use Rattle.std.specs.Prelude.{Result, Ok, Err, ℕ, List}
use Rattle.refusal.specs.Outcome.{Outcome}
use Rattle.refusal.specs.declared.Refusal.{Refusal}
use Rattle.rule.specs.declared.sizes.Sizes.{Sizes}
use Rattle.rule.specs.inner.Sizes.{sizes}
use Rattle.rule.specs.Layout.{part_count, channel_count}
use Rattle.rule.specs.Sheet.{sheet_outcome}

unfoldable pub counts_unless : Outcome → List ℕ → Result Sizes Refusal
counts_unless (Ok _) sheet = Ok (sizes (part_count sheet) (channel_count sheet))
counts_unless (Err r) sheet = Err r

unfoldable pub sheet_read : List ℕ → Result Sizes Refusal
sheet_read sheet = counts_unless (sheet_outcome sheet) sheet
