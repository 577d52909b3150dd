-- The scratch of the search: words in which the marks of the lower parts on the rows of a layout are made. Assumes nothing.
use Rattle.std.specs.Prelude.{ℕ, ◌+◌, ◌*◌, ◌≤◌, ◌<◌, ◌≡◌, Bool, true, false, List, length}
use Rattle.std.proofs.Math.Option.{Option, none, some}
use Rattle.cltlb.specs.declared.Operator.{Operator}
use Rattle.cltlb.specs.declared.View.{View}
use Rattle.refusal.specs.Lowest.{lowest_from}
use Rattle.rule.specs.Take.{views_of}
use Rattle.plan.specs.Layout.{rows}
use Rattle.plan.specs.declared.sizes.Sizes.{Sizes}
use Rattle.verdict.specs.Meaning.{is_changes}
use Rattle.verdict.specs.Rows.{judge_cycle}
use Rattle.verdict.specs.declared.Comparison.{Comparison}
use Rattle.words.specs.inner.Words.{mark_at, Room}
use Rattle.marks.specs.Parts.{closes, closing_outcome}
use Rattle.labelling.specs.Labels.{operator_label, label_of, made_mark}
use Rattle.settling.specs.Settle.{is_clear, settles_after}

-- the lowest of `count` positions from `from` on from which on a comparison changes, on the passes from there on
unfoldable pub changing_from : List ℕ → Comparison → ℕ → ℕ → Option ℕ
changing_from plan x from count = lowest_from (λ t. is_changes (judge_cycle plan x 4 t)) from count

abbrev pub is_none : Option ℕ → Bool
is_none none = true
is_none (some k) = false

-- the marks of the parts below i are what they were
abbrev pub Lower : ℕ → List ℕ → List ℕ → Type 0
Lower i old new = (a : ℕ) → a < i → (row : ℕ) → mark_at new a row ≡ mark_at old a row

-- A part that has been tried on w rows. The answer is whether it closes;
pub record Tried (old new : List ℕ) (i w : ℕ) (mark : ℕ → Bool) (closing answer : Bool) : Type 0 where
  pub outcome : answer ≡ closing
  -- there is as much room as before, and the marks of the lower parts are what they were;
  pub long : length new ≡ length old
  pub lower : (a : ℕ) → a < i → (row : ℕ) → mark_at new a row ≡ mark_at old a row
  -- where it closes, its marks are made
  pub made : answer ≡ true → (row : ℕ) → row < w → mark_at new i row ≡ mark row

-- Part i, which is an operator, with P start rows and C cycle rows.
abbrev pub OperatorTried : ℕ → ℕ → List ℕ → List ℕ → ℕ → Operator → Bool → Type 0
OperatorTried P C old new i o answer = Tried old new i (P + C) (operator_label P C (mark_at old) o) (closes P C (mark_at old) o) answer

-- Part i on a layout.
abbrev pub PartTried : List ℕ → List ℕ → List ℕ → ℕ → View → Bool → Type 0
PartTried layout old new i p answer = Tried old new i (rows layout) (label_of layout (mark_at old) p) (is_clear (closing_outcome layout (mark_at old) p i)) answer

-- In the scratch the marks of the parts below i are made, on the rows of a layout.
pub record MadeTo (rule layout scratch : List ℕ) (i : ℕ) : Type 0 where
  pub room : Room scratch
  pub marks : (a : ℕ) → a < i → (row : ℕ) → row < rows layout → made_mark (views_of rule) layout a row ≡ mark_at scratch a row

-- Part i closes on a layout.
abbrev pub closes_on : List ℕ → List ℕ → ℕ → Bool
closes_on rule layout i = is_clear (closing_outcome layout (made_mark (views_of rule) layout) (views_of rule i) i)

-- A comparison changes on every layout of `from` to below `to` passes.
abbrev pub Unsteady : List ℕ → Sizes → Comparison → ℕ → ℕ → Type 0
Unsteady plan z x from to = (m : ℕ) → from ≤ m → m < to → is_none (changing_from plan x (z.start + m * z.cycle) z.cycle) ≡ false

-- No number of passes from `from` to below `to` settles.
abbrev pub NoneSettles : List ℕ → List ℕ → ℕ → ℕ → Type 0
NoneSettles rule plan from to = (m : ℕ) → from ≤ m → m < to → settles_after rule plan m ≡ false
