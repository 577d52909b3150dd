-- A sheet that clears refusals 1 to 3: its sizes are in their ranges, every part can be taken, and it fits. Assumes nothing.
use Rattle.std.specs.Prelude.{Result, Ok, Err}
use Rattle.cltlb.specs.declared.Part.{Part}
use Rattle.refusal.specs.declared.Refusal.{Refusal}
use Rattle.refusal.specs.Outcome.{unrefused}
use Prim.Native.Nat.{ℕ, ◌≤◌, ◌<◌}
use native.Mathlib.Omega.{arith}
use mathlib.Core.Path.{◌≡◌, refl}
use mathlib.Core.List.{List}
use mathlib.Core.Bool.{true, false}
use Rattle.refusal.specs.declared.Refusal.TheVariants.{RuleSizes, Kind, Operand}
use Rattle.refusal.specs.First.{◌or_else◌, unless, at_lowest}
use Rattle.refusal.proofs.First.{or_else_clear, unless_clear, at_lowest_clear}
use Rattle.cltlb.specs.Fits.{view_fits}
use Rattle.rule.specs.Layout.{part_count, channel_count, sizes_fit}
use Rattle.rule.specs.Kinds.{kind_unknown}
use Rattle.rule.specs.Take.{take_of, part_taken, parts_of, views_of}
use Rattle.rule.specs.Sheet.{is_refused, untakeable, sheet_outcome}
use Rattle.rule.proofs.SizesKnown.{sizes_known}
use Rattle.rule.proofs.TakenIsLaid.{taken_fits}

was_taken : (t : Result Part Refusal) → is_refused t ≡ false → t ≡ Ok (part_taken t)
unfolding is_refused part_taken
was_taken (Ok p) h = refl
was_taken (Err r) h = absurd (let z : ◌≡◌ {A = ℕ} 0 1 = cc in omega arith)

module _ (s : List ℕ) (clear : sheet_outcome s ≡ unrefused) where
  -- all three tests refuse nothing
  tests : (sizes_fit s ≡ true) × ((n : ℕ) → n < part_count s → kind_unknown s n ≡ false) × ((n : ℕ) → n < part_count s → untakeable s n ≡ false)
  unfolding sheet_outcome
  tests =
      let a = (or_else_clear (unless (sizes_fit s) RuleSizes) (at_lowest (kind_unknown s) (part_count s) Kind or_else at_lowest (untakeable s) (part_count s) Operand)).0 clear in
      let b = (or_else_clear (at_lowest (kind_unknown s) (part_count s) Kind) (at_lowest (untakeable s) (part_count s) Operand)).0 a.1 in (
        (unless_clear (sizes_fit s) RuleSizes).0 a.0,
        (at_lowest_clear (kind_unknown s) (part_count s) Kind).0 b.0,
        (at_lowest_clear (untakeable s) (part_count s) Operand).0 b.1,
      )

  pub cleared_sizes : sizes_fit s ≡ true
  cleared_sizes = tests.0

  -- It has 1 to 64 parts and 1 to 8 channels.
  pub cleared_counts : (1 ≤ part_count s) × (part_count s ≤ 64) × (1 ≤ channel_count s) × (channel_count s ≤ 8)
  cleared_counts = let k = sizes_known s tests.0 in (k.0, k.1, k.2, k.3)

  module _ (n : ℕ) (present : n < part_count s) where
    -- Every part is taken.
    pub cleared_taken : take_of s n ≡ Ok (parts_of s n)
    unfolding parts_of untakeable
    cleared_taken = was_taken (take_of s n) (tests.2 n present)

    -- and it fits: its channels are below V and its shifts -4 to 4, and it names lower parts.
    pub cleared_fits : view_fits (channel_count s) n (views_of s n) ≡ true
    unfolding views_of
    cleared_fits = taken_fits s n (parts_of s n) cleared_taken
