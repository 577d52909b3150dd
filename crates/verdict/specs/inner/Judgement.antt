-- What is promised of the verdict r on an atom, on a row of a plan. Assumes nothing.
use Rattle.std.specs.Prelude.{ℕ, ◌≡◌, List}
use Rattle.cltlb.specs.Truth.{AtomHolds}
use Rattle.cltlb.specs.declared.Atom.{Atom}
use Rattle.plan.specs.Layout.{start_rows, cycle_rows}
use Rattle.plan.specs.Run.{run_of}
use Rattle.verdict.specs.Meaning.{VerdictMeans}
use Rattle.verdict.specs.Rows.{verdict_of}
use Rattle.verdict.specs.declared.Verdict.{Verdict}

pub record Judgement (plan : List ℕ) (atom : Atom) (row : ℕ) (r : Verdict) : Type 0 where
  pub answer : r ≡ verdict_of plan atom row
  -- of the published truth of the atom, on every pass
  pub meaning : VerdictMeans (start_rows plan) (cycle_rows plan) row (AtomHolds (run_of plan) atom) r
