-- The verdict on two numbers that each grow by a fixed step on every pass, around the week. Assumes nothing.
use Rattle.std.specs.Prelude.{ℕ, ◌+◌, ◌-◌, ◌%◌, Bool, cond, ltb, ℤ, ◌-ℤ◌}
use Rattle.cltlb.specs.Week.{week, minute_of}
use Rattle.verdict.specs.Divisors.{gcd}
use Rattle.verdict.specs.Lines.{Line}
use Rattle.verdict.specs.declared.Verdict.{Verdict}
use Rattle.verdict.specs.declared.Verdict.TheVariants.{AlwaysTrue, AlwaysFalse, Changes}

-- how many minutes a is after b, whole weeks left aside: 0 to 10079
unfoldable pub minutes_after : ℤ → ℤ → ℕ
minutes_after a b = minute_of (a -ℤ b)

-- a is less than n minutes after b
abbrev pub within : ℕ → ℤ → ℤ → Bool
within n a b = ltb (minutes_after a b) n

-- the verdict on numbers of minutes that are `spacing` apart: `least` at least, and least + (10080 - spacing) at most
unfoldable pub judge_spaced : ℕ → ℕ → ℕ → Verdict
judge_spaced n spacing least = cond (ltb least n) (cond (ltb (least + (week - spacing)) n) AlwaysTrue Changes) AlwaysFalse

-- On its passes x is after y by every number of minutes that is a multiple of the spacing away from the first one, and by no other.
unfoldable pub judge_within : ℕ → Line → Line → Verdict
judge_within n x y = let spacing = gcd week (minutes_after x.step y.step) in judge_spaced n spacing (minutes_after x.at y.at % spacing)
