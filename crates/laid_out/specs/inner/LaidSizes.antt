-- The sizes of a plan with passes of its cycle laid out. Assumes nothing.
use Rattle.std.specs.Prelude.{ℕ, ◌+◌, ◌*◌}
use Rattle.plan.specs.declared.sizes.Sizes.{Sizes}

-- n cycles more of start rows
abbrev pub laid_sizes : Sizes → ℕ → Sizes
laid_sizes z n = record { channels = z.channels; start = z.start + n * z.cycle; cycle = z.cycle; lead = z.lead }

-- the bytes of the largest plan: 8 channels on 260 rows that are stored, the sizes and the tops
abbrev pub most_plan : ℕ
most_plan = 16680
