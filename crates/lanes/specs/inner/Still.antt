-- A comparison at positions of a plan in whose cycle nothing drifts, by the numbers that stand in the lanes. Assumes nothing.
use Rattle.std.specs.Prelude.{ℕ, ◌+◌, ◌-◌, ◌≤◌, ◌<◌, ◌≡◌, Bool, true, List, ℤ, pos}
use Rattle.std.specs.Bool.{beq}
use Rattle.cltlb.specs.Fits.{term_fits}
use Rattle.cltlb.specs.Run.{Seen, under}
use Rattle.cltlb.specs.declared.Term.{Term}
use Rattle.plan.specs.Positions.{row_of}
use Rattle.plan.specs.inner.Sizes.{all_rows, all_stored}
use Rattle.plan.specs.declared.sizes.Sizes.{Sizes}
use Rattle.table.specs.Layout.{marked}
use Rattle.verdict.specs.Comparisons.{tested}
use Rattle.lanes.specs.inner.Columns.{lane_number}
use Rattle.lanes.specs.declared.columns.Side.{Side}
use Rattle.lanes.specs.declared.rows.ComparisonPart.{ComparisonPart}
use Rattle.lanes.specs.declared.rows.Sides.{Sides}
use Rattle.lanes.specs.inner.Direct.{OfPart}

-- the number of a term on the row on which its shift, of this code, lands from position t
abbrev pub landed_number : List ℕ → Sizes → Term → ℕ → ℕ → ℤ
landed_number values z x code t = lane_number values (all_stored z) x 4 (z.lead + row_of z.start z.cycle (t + code - 4))

-- what is seen of a term that is read so
abbrev pub landed_seen : List ℕ → Sizes → Term → Side → ℕ → Seen
landed_seen values z x s t = under (pos s.top) (landed_number values z x s.code t)

-- the mark of a part on the row of the position says how what is seen of the two compares
abbrev pub still_says : List ℕ → List ℕ → ComparisonPart → Sides → ℕ → Bool
still_says values table part sides t =
    let z = part.sizes in
    let x = part.comparison in
    beq (marked (all_rows z) table part.i (row_of z.start z.cycle t)) (tested x.relation (landed_seen values z x.left sides.left t) (landed_seen values z x.right sides.right t))

-- a term whose shift has this code can be read on the row on which that lands from position t, which is not before position 0
pub record Lands (z : Sizes) (x : Term) (code t : ℕ) : Type 0 where
  pub few_channels : z.channels ≤ 8
  pub a_cycle : 1 ≤ z.cycle
  pub few_lead : z.lead ≤ 4
  pub few_rows : all_rows z ≤ 256
  pub fits : term_fits z.channels x ≡ true
  pub few_code : code ≤ 8
  pub early : t < all_rows z + 4
  pub in_run : 4 ≤ t + code

-- positions at which a part is looked at, from none of which a term is read before position 0
pub record StillPositions (table : List ℕ) (part : ComparisonPart) (sides : Sides) (from to : ℕ) : Type 0 where
  pub of_part : OfPart table part sides
  pub few : to ≤ all_rows part.sizes + 4
  pub in_order : from ≤ to
  pub in_run : (4 ≤ from + sides.left.code) × (4 ≤ from + sides.right.code)
