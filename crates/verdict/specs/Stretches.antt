-- Stretches of passes: those on which one line is below another, and those that two stretches have in common. Assumes nothing.
use Rattle.std.specs.Prelude.{◌+◌, ◌-◌, ◌/◌, max, min, Bool, true, false, cond, ltb, eqb, nat_abs, ◌-ℤ◌}
use Rattle.std.specs.Int.Signed.{lt_z}
use Rattle.verdict.specs.Lines.{Line, raised}
use Rattle.verdict.specs.declared.stretches.Stretch.{Stretch}
use Rattle.verdict.specs.declared.stretches.Stretch.TheVariants.{From, Between}

abbrev pub all_passes : Stretch
all_passes = From 0

abbrev pub no_pass : Stretch
no_pass = Between 0 0

-- every pass lies in a stretch
unfoldable pub is_all : Stretch → Bool
is_all (From a) = eqb a 0
is_all (Between a b) = false

-- some pass lies in a stretch
unfoldable pub has_pass : Stretch → Bool
has_pass (From a) = true
has_pass (Between a b) = ltb a b

-- the passes that lie in both
unfoldable pub common : Stretch → Stretch → Stretch
common (From a) (From b) = From (max a b)
common (From a) (Between b e) = Between (max a b) e
common (Between a d) (From b) = Between (max a b) d
common (Between a d) (Between b e) = Between (max a b) (min d e)

-- the passes on which x is below y: where it is below at first, until the steeper x has made up the gap; where it is not, from the
-- pass on which the steeper y has more than made it up
unfoldable pub passes_below : Line → Line → Stretch
passes_below x y =
    cond (lt_z x.at y.at)
    (cond (lt_z y.step x.step) (Between 0 ((nat_abs (y.at -ℤ x.at) - 1) / nat_abs (x.step -ℤ y.step) + 1)) all_passes)
    (cond (lt_z x.step y.step) (From (nat_abs (x.at -ℤ y.at) / nat_abs (y.step -ℤ x.step) + 1)) no_pass)

-- the passes on which x is not above y
unfoldable pub passes_at_most : Line → Line → Stretch
passes_at_most x y = passes_below x (raised y)

-- the passes on which they are the same
unfoldable pub passes_same : Line → Line → Stretch
passes_same x y = common (passes_at_most x y) (passes_at_most y x)
