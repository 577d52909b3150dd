-- Marks that say on every pass how two lines compare, and lines that do not come to their tops. Assumes nothing.
use Rattle.std.specs.Prelude.{ℕ, ◌<◌, ◌≡◌, Bool, false, not, ◌&&◌, List, ℤ, pos}
use Rattle.std.specs.Bool.{beq}
use Rattle.std.specs.Int.Signed.{lt_z, le_z}
use Rattle.fields.specs.inner.Biased.{unbiased}
use Rattle.verdict.specs.Meaning.{is_changes}
use Rattle.verdict.specs.Lines.{Line}
use Rattle.verdict.specs.Comparisons.{test_of, tested, judge_lines}
use Rattle.verdict.specs.Stretches.{all_passes, no_pass}
use Rattle.verdict.specs.Tops.{passes_free, passes_pinned, judge_under}
use Rattle.verdict.specs.declared.Relation.{Relation}
use Rattle.verdict.specs.declared.Verdict.{Verdict}
use Rattle.verdict.specs.declared.Verdict.TheVariants.{AlwaysTrue, AlwaysFalse, Changes}
use Rattle.lanes.specs.declared.columns.Column.{Column}
use Rattle.lanes.specs.inner.Columns.{number_in, line_in, top_in, seen_in}

-- the line that begins at a and gains d on each pass, both kept without a sign
abbrev pub line_from : ℕ → ℕ → Line
line_from a d = record { at = unbiased a; step = unbiased d }

-- a verdict says on every pass what the mark says
abbrev pub verdict_agrees : Verdict → Bool → Bool
verdict_agrees AlwaysTrue mark = mark
verdict_agrees AlwaysFalse mark = not mark
verdict_agrees Changes mark = false

-- a verdict is no change
abbrev pub stays : Verdict → Bool
stays v = not (is_changes v)

-- the mark says how the numbers of two columns compare
abbrev pub values_agree : Relation → List ℕ → Column → Column → Bool → ℕ → Bool
values_agree relation values x y mark k = beq mark (test_of relation (number_in values x k) (number_in values y k))

-- the mark says on every pass how the lines of two columns compare
abbrev pub lines_agree : Relation → List ℕ → List ℕ → Column → Column → Bool → ℕ → Bool
lines_agree relation values drifts x y mark k = verdict_agrees (judge_lines relation (line_in values drifts x k) (line_in values drifts y k)) mark

-- and the same of what is seen in two columns with tops
abbrev pub seen_agree : Relation → List ℕ → Column → Column → Bool → ℕ → Bool
seen_agree relation values x y mark k = beq mark (tested relation (seen_in values x k) (seen_in values y k))

abbrev pub under_agree : Relation → List ℕ → List ℕ → Column → Column → Bool → ℕ → Bool
under_agree relation values drifts x y mark k = verdict_agrees (judge_under relation (top_in x) (line_in values drifts x k) (top_in y) (line_in values drifts y k)) mark

-- a line lies below its top, and does not rise
abbrev pub lies_below : ℤ → Line → Bool
lies_below top x = lt_z x.at top && le_z x.step (pos 0)

-- a line is below its top on every pass
pub record Free (top : ℤ) (x : Line) : Type 0 where
  pub free : all_passes ≡ passes_free top x
  pub pinned : no_pass ≡ passes_pinned top x

-- and so are the lines of a column on its first `count` rows
unfoldable pub StayFree : List ℕ → List ℕ → Column → ℕ → Type 0
StayFree values drifts x count = (k : ℕ) → k < count → Free (top_in x) (line_in values drifts x k)
