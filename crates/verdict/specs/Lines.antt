-- Numbers that grow by a fixed step on every pass, and the verdict on two of them. Assumes nothing.
use Rattle.std.specs.Prelude.{ℕ, ◌%◌, Bool, false, cond, ◌&&◌, eqb, ℤ, pos, negsuc, nat_abs, ◌+ℤ◌, ◌-ℤ◌, ◌*ℤ◌}
use Rattle.std.specs.Int.Signed.{lt_z}
use Rattle.verdict.specs.declared.Verdict.{Verdict}
use Rattle.verdict.specs.declared.Verdict.TheVariants.{AlwaysTrue, AlwaysFalse, Changes}

-- a number that is `at` on a first pass and `at + k × step` on the k-th after it
pub record Line : Type 0 where
  pub at : ℤ
  pub step : ℤ

-- the number on the k-th pass after the first one
unfoldable pub on_pass : Line → ℕ → ℤ
on_pass x k = x.at +ℤ pos k *ℤ x.step

-- a number that stays
abbrev pub level : ℤ → Line
level z = record { at = z; step = pos 0 }

-- the line that is higher by 1
abbrev pub raised : Line → Line
raised x = record { at = x.at +ℤ pos 1; step = x.step }

abbrev pub eq_z : ℤ → ℤ → Bool
eq_z (pos a) (pos b) = eqb a b
eq_z (pos a) (negsuc b) = false
eq_z (negsuc a) (pos b) = false
eq_z (negsuc a) (negsuc b) = eqb a b

-- less: it changes where it holds at first and the left line is the steeper one, or fails at first and the right one is
unfoldable pub judge_less : Line → Line → Verdict
judge_less x y =
    cond (lt_z x.at y.at)
    (cond (lt_z y.step x.step) Changes AlwaysTrue)
    (cond (lt_z x.step y.step) Changes AlwaysFalse)

-- x is below y and meets it on some pass: it is the steeper one, and its gain on each pass divides the gap
unfoldable pub meets : Line → Line → Bool
meets x y = lt_z y.step x.step && eqb (nat_abs (y.at -ℤ x.at) % nat_abs (x.step -ℤ y.step)) 0

-- equal: from unequal numbers it is true on one pass at most; a drift that steps over it leaves it always false
unfoldable pub judge_equal : Line → Line → Verdict
judge_equal x y =
    cond (lt_z x.at y.at) (cond (meets x y) Changes AlwaysFalse)
    (cond (lt_z y.at x.at) (cond (meets y x) Changes AlwaysFalse)
    (cond (eq_z x.step y.step) AlwaysTrue Changes))
