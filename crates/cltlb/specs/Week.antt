-- The minutes of the week, and windows of it. Assumes nothing.
use Rattle.std.specs.Prelude.{ℕ, ◌-◌, ◌%◌, Bool, cond, ◌&&◌, ◌||◌, ltb, leb, ℤ, pos, negsuc}

-- 7 days of 24 hours of 60 minutes
abbrev pub week : ℕ
week = 10080

-- the minute of the week: the remainder by 10080, taken from 0 upward also for a number below 0; negsuc 0, which is -1, is 10079
unfoldable pub minute_of : ℤ → ℕ
minute_of (pos n) = n % week
minute_of (negsuc n) = week - 1 - n % week

-- From belongs to the window and to does not. When from is above to, the window runs over the end of the week.
unfoldable pub in_window : ℕ → ℕ → ℤ → Bool
in_window from to z = cond (ltb from to) (leb from (minute_of z) && ltb (minute_of z) to) (leb from (minute_of z) || ltb (minute_of z) to)
