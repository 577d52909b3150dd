-- A minute of the week in a window. Assumes nothing.
use Rattle.std.specs.Prelude.{ℕ, Bool, cond, ◌&&◌, ◌||◌, ltb, leb}

unfoldable pub in_minutes : ℕ → ℕ → ℕ → Bool
in_minutes from to minute = cond (ltb from to) (leb from minute && ltb minute to) (leb from minute || ltb minute to)
