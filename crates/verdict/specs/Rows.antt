-- The verdict on a row of a plan: the first passes one by one, and from there on by the lines and the tops of the two terms.
-- Assumes nothing.
use Rattle.std.specs.Prelude.{ℕ, zero, suc, ◌+◌, ◌*◌, List, Bool, cond, ltb, ℤ, pos, negsuc, ◌+ℤ◌}
use Rattle.cltlb.specs.Truth.{value_at}
use Rattle.cltlb.specs.declared.Term.{Term}
use Rattle.cltlb.specs.declared.Term.TheVariants.{Constant, Reading}
use Rattle.cltlb.specs.declared.Atom.{Atom}
use Rattle.plan.specs.Layout.{start_rows, cycle_rows, top_of, drift_of}
use Rattle.plan.specs.Positions.{row_of}
use Rattle.plan.specs.Run.{reading_at, run_of}
use Rattle.verdict.specs.Lines.{Line}
use Rattle.verdict.specs.Comparisons.{comparison_of, tested}
use Rattle.verdict.specs.Tops.{judge_under}
use Rattle.verdict.specs.declared.Comparison.{Comparison}
use Rattle.verdict.specs.declared.Verdict.{Verdict}
use Rattle.verdict.specs.declared.Verdict.TheVariants.{AlwaysTrue, AlwaysFalse, Changes}

-- the line of a channel on the passes from position t on
unfoldable pub channel_line : List ℕ → ℕ → ℤ → Line
channel_line plan channel (pos t) =
    record { at = reading_at plan channel t; step = drift_of plan (row_of (start_rows plan) (cycle_rows plan) t) channel }
channel_line plan channel (negsuc t) = record { at = pos 0; step = pos 0 }

unfoldable pub term_line : List ℕ → Term → ℕ → Line
term_line plan (Constant z) t = record { at = z; step = pos 0 }
term_line plan (Reading channel shift) t = channel_line plan channel (pos t +ℤ shift)

-- the top of a term; a constant has none
abbrev pub term_top : List ℕ → Term → ℤ
term_top plan (Constant z) = pos 0
term_top plan (Reading channel shift) = top_of plan channel

-- one more pass in front
abbrev pub join : Bool → Verdict → Verdict
join truth AlwaysTrue = cond truth AlwaysTrue Changes
join truth AlwaysFalse = cond truth Changes AlwaysFalse
join truth Changes = Changes

-- the first n passes in front, one by one
unfoldable pub join_first : (ℕ → Bool) → ℕ → Verdict → Verdict
join_first f zero v = v
join_first f (suc n) v = join_first f n (join (f n) v)

-- a comparison on the run of a plan
module _ (plan : List ℕ) (x : Comparison) where
  -- at a position
  unfoldable pub test_at : ℕ → Bool
  test_at t = tested x.relation (value_at (run_of plan) x.left t) (value_at (run_of plan) x.right t)

  -- on all passes from position t on, from which on neither term is read before the cycle: by their lines and tops
  abbrev pub judge_from : ℕ → Verdict
  judge_from t = judge_under x.relation (term_top plan x.left) (term_line plan x.left t) (term_top plan x.right) (term_line plan x.right t)

  -- on a cycle row: n passes looked at one by one, and all from pass n on by the lines
  unfoldable pub judge_cycle : ℕ → ℕ → Verdict
  judge_cycle n row = join_first (λ k. test_at (row + k * cycle_rows plan)) n (judge_from (row + n * cycle_rows plan))

  -- For a start row it is always true or always false. On a cycle row no shift reaches before the cycle from pass 4 on.
  unfoldable pub judge_row : ℕ → Verdict
  judge_row row = cond (ltb row (start_rows plan)) (cond (test_at row) AlwaysTrue AlwaysFalse) (judge_cycle 4 row)

-- an atom at a position
unfoldable pub atom_at : List ℕ → Atom → ℕ → Bool
atom_at plan x t = test_at plan (comparison_of x) t

-- the verdict on an atom, on a row
unfoldable pub verdict_of : List ℕ → Atom → ℕ → Verdict
verdict_of plan x row = judge_row plan (comparison_of x) row
