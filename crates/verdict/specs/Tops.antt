-- The verdict on two lines with tops: a line stands for a number on the passes on which it is below its top. Assumes nothing.
use Rattle.std.specs.Prelude.{ℕ, zero, suc, ◌-◌, min, Bool, false, cond, ◌||◌, ℤ}
use Rattle.cltlb.specs.Run.{is_top}
use Rattle.cltlb.specs.Week.{week}
use Rattle.verdict.specs.Lines.{Line, on_pass, level}
use Rattle.verdict.specs.Weeks.{within}
use Rattle.verdict.specs.Comparisons.{judge_lines}
use Rattle.verdict.specs.Stretches.{all_passes, no_pass, is_all, has_pass, common, passes_below, passes_at_most, passes_same}
use Rattle.verdict.specs.declared.stretches.Stretch.{Stretch}
use Rattle.verdict.specs.declared.stretches.Stretch.TheVariants.{From, Between}
use Rattle.verdict.specs.declared.Relation.{Relation}
use Rattle.verdict.specs.declared.Relation.TheVariants.{Below, Same, Within, Pinned}
use Rattle.verdict.specs.declared.Verdict.{Verdict}
use Rattle.verdict.specs.declared.Verdict.TheVariants.{AlwaysTrue, AlwaysFalse, Changes}

-- the passes on which a line is not pinned under a top, and those on which it is
unfoldable pub passes_free : ℤ → Line → Stretch
passes_free top x = cond (is_top top) (passes_below x (level top)) all_passes

unfoldable pub passes_pinned : ℤ → Line → Stretch
passes_pinned top x = cond (is_top top) (passes_at_most (level top) x) no_pass

-- some of the n passes from pass a on, looked at one by one
unfoldable pub some_from : (ℕ → Bool) → ℕ → ℕ → Bool
some_from f a zero = false
some_from f a (suc n) = f a || some_from f (suc a) n

abbrev pub within_on : ℕ → Line → Line → ℕ → Bool
within_on n x y k = within n (on_pass x k) (on_pass y k)

-- on some pass of a stretch x is less than n minutes after y; after 10080 passes the minutes come again
unfoldable pub some_within : ℕ → Line → Line → Stretch → Bool
some_within n x y (From a) = some_from (within_on n x y) a week
some_within n x y (Between a b) = some_from (within_on n x y) a (min (b - a) week)

-- a relation holds on some pass of a stretch
unfoldable pub some_on : Relation → Line → Line → Stretch → Bool
some_on Below x y p = has_pass (common (passes_below x y) p)
some_on Same x y p = has_pass (common (passes_same x y) p)
some_on (Within n) x y p = some_within n x y p
some_on Pinned x y p = false

-- the verdict on what holds on no pass outside a stretch: `all` is that for a stretch of all passes, `some` whether it holds on one
unfoldable pub judge_on : Verdict → Bool → Stretch → Verdict
judge_on all some p = cond (is_all p) all (cond some Changes AlwaysFalse)

-- the verdict on a line that is pinned
unfoldable pub judge_pinned : ℤ → Line → Verdict
judge_pinned s x = let p = passes_pinned s x in judge_on AlwaysTrue (has_pass p) p

-- the verdict on a relation of two lines, neither of them pinned
unfoldable pub judge_free : Relation → ℤ → Line → ℤ → Line → Verdict
judge_free relation s x t y = let p = common (passes_free s x) (passes_free t y) in judge_on (judge_lines relation x y) (some_on relation x y p) p

-- the verdict on two lines, each with its top ahead of it
unfoldable pub judge_under : Relation → ℤ → Line → ℤ → Line → Verdict
judge_under Below = judge_free Below
judge_under Same = judge_free Same
judge_under (Within n) = judge_free (Within n)
judge_under Pinned = λ s x t y. judge_pinned s x
