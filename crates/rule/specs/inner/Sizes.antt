-- The sizes of a rule sheet, as they are read. Assumes nothing.
use Rattle.std.specs.Prelude.{ℕ, List, cond, Option, Some, None}
use Rattle.rule.specs.declared.sizes.Sizes.{Sizes}
use Rattle.rule.specs.Layout.{part_count, channel_count, sizes_fit}

abbrev pub sizes : ℕ → ℕ → Sizes
sizes n v = record { parts = n; channels = v }

-- N and V where the sizes fit
unfoldable pub sizes_of : List ℕ → Option Sizes
sizes_of sheet = cond (sizes_fit sheet) (Some (sizes (part_count sheet) (channel_count sheet))) None
