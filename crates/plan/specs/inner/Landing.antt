-- Where a shift lands from a cycle row, with P start rows and C cycle rows: the row, and the passes that it is off, on all passes
-- on which the shifted position is not before the cycle. `code` is the shift + 4. Assumes nothing.
use Rattle.std.specs.Prelude.{ℕ, ◌+◌, ◌*◌, ◌-◌, ◌/◌, ◌%◌}

-- how far behind row P the shifted row lies, four cycles on, which is never below 0: a shift is -4 or more, and a cycle has a row
unfoldable pub landed_behind : ℕ → ℕ → ℕ → ℕ → ℕ
landed_behind P C row code = row + code + 4 * C - (P + 4)

-- the row on which it lands
unfoldable pub landing_row : ℕ → ℕ → ℕ → ℕ → ℕ
landing_row P C row code = P + landed_behind P C row code % C

-- the passes that it is off, + 4
unfoldable pub landing_off : ℕ → ℕ → ℕ → ℕ → ℕ
landing_off P C row code = landed_behind P C row code / C
