-- Terms on the passes of a cycle row, by where their shifts land, and the verdict on two of them. Assumes nothing.
use Rattle.std.specs.Prelude.{ℕ, ◌+◌, ◌-◌, ◌≤◌, ◌<◌, ◌≡◌, List, ℤ, pos}
use Rattle.std.proofs.Math.IntN.{sub_ℕ}
use Rattle.cltlb.specs.declared.Term.{Term}
use Rattle.cltlb.specs.declared.Term.TheVariants.{Constant, Reading}
use Rattle.plan.specs.Layout.{drift_of}
use Rattle.plan.specs.Positions.{row_of, pass_of}
use Rattle.plan.specs.Run.{reading_on, reading_at}
use Rattle.plan.specs.inner.Landing.{landing_row, landing_off}
use Rattle.plan.specs.inner.Lifted.{passes}
use Rattle.plan.specs.inner.Sizes.{all_rows}
use Rattle.plan.specs.declared.sizes.Sizes.{Sizes}
use Rattle.plan.specs.declared.landing.Landing.{Landing}
use Rattle.verdict.specs.Lines.{Line}
use Rattle.verdict.specs.Tops.{judge_under}
use Rattle.verdict.specs.Rows.{term_top}
use Rattle.verdict.specs.declared.Verdict.{Verdict}
use Rattle.verdict.specs.declared.Comparison.{Comparison}

-- the shift by which a term is read; a constant, which is read nowhere, has none
abbrev pub shift_in : Term → ℤ
shift_in (Constant z) = pos 0
shift_in (Reading channel shift) = shift

-- l is where the shift of a term lands from a row
pub record Lands (z : Sizes) (row : ℕ) (x : Term) (l : Landing) : Type 0 where
  pub code : ℕ
  pub is_code : sub_ℕ code 4 ≡ shift_in x
  pub small : code ≤ 8
  pub on_row : l.row ≡ landing_row z.start z.cycle row code
  pub off_by : l.off ≡ landing_off z.start z.cycle row code

abbrev pub BothLand : Sizes → ℕ → Comparison → Landing → Landing → Type 0
BothLand z row x left right = Lands z row x.left left × Lands z row x.right right

-- on pass k, l is in reach of the lookups
abbrev pub Reached : Sizes → Landing → ℕ → Type 0
Reached z l k = (l.row < all_rows z) × (4 ≤ k + l.off) × (k + l.off < passes + 4)

-- on pass k, l is the row and the pass of the position `ahead` - 4, and a channel reads there what that row and pass give, unless
-- the position is before the cycle
unfoldable pub LandsAt : List ℕ → Sizes → Landing → ℕ → ℕ → Type 0
LandsAt plan z l ahead k =
    z.start + 4 ≤ ahead → (l.row ≡ row_of z.start z.cycle (ahead - 4)) × (k + l.off ≡ pass_of z.start z.cycle (ahead - 4) + 4)
    × ((channel : ℕ) → reading_at plan channel (ahead - 4) ≡ reading_on plan channel l.row (k + l.off - 4))

-- the line of a channel from a row and a pass on
abbrev pub line_on : List ℕ → ℕ → ℕ → ℕ → Line
line_on plan channel row pass = record { at = reading_on plan channel row pass; step = drift_of plan row channel }

-- the line of a term from pass k on
abbrev pub landed_line : List ℕ → Term → Landing → ℕ → Line
landed_line plan (Constant z) l k = record { at = z; step = pos 0 }
landed_line plan (Reading channel shift) l k = line_on plan channel l.row (k + l.off - 4)

-- neither term is read on a channel that has a top
abbrev pub NoTops : List ℕ → Comparison → Type 0
NoTops plan x = (term_top plan x.left ≡ pos 0) × (term_top plan x.right ≡ pos 0)

-- the verdict on all passes from pass k on, by the lines and the tops of the two terms
abbrev pub judge_landed : List ℕ → Comparison → Landing → Landing → ℕ → Verdict
judge_landed plan x left right k =
    judge_under x.relation (term_top plan x.left) (landed_line plan x.left left k) (term_top plan x.right) (landed_line plan x.right right k)
