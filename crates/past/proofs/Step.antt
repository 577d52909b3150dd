-- What the truth of a part on the newest row is made of. Assumes nothing.
use Prim.Native.Nat.{ℕ, zero, suc}
use mathlib.Core.Bool.{Bool, true, false, cond, not, ◌&&◌, ◌||◌}
use mathlib.Core.List.{List, [], ◌∷◌}
use lib.ListN.{length}
use lib.IntN.{ℤ}
use lib.Signed.{lt_z}
use Rattle.cltlb.specs.Run.{Seen, number, before_run}
use Rattle.cltlb.specs.Week.{in_window}
use Rattle.cltlb.specs.Truth.{Formula, Holds}
use Rattle.cltlb.specs.declared.Term.{Term}
use Rattle.cltlb.specs.declared.Term.TheVariants.{Constant, Reading}
use Rattle.cltlb.specs.declared.Atom.{Atom}
use Rattle.cltlb.specs.declared.Atom.TheVariants.{Less, Equal, Window, Pinned}
use Rattle.cltlb.specs.declared.Unary.TheVariants.{Not, Next, Yesterday, WeakYesterday}
use Rattle.cltlb.specs.declared.Binary.TheVariants.{And, Or, Until, Release, Since, Trigger}
use Rattle.cltlb.specs.declared.Operator.TheVariants.{One, Two}
use Rattle.cltlb.specs.declared.View.{View}
use Rattle.cltlb.specs.declared.View.TheVariants as view
use Rattle.verdict.specs.Lines.{eq_z}
use Rattle.verdict.specs.Comparisons.{of_number, of_numbers, seen_pinned}
use Rattle.past.specs.Rows.{Row, run_of}

-- what is seen of a channel at a shift from the newest row
module _ (seen : ℕ → ℤ → Seen) where
  unfoldable pub value_now : Term → Seen
  value_now (Constant z) = number z
  value_now (Reading c s) = seen c s

  unfoldable pub atom_now : Atom → Bool
  atom_now (Less x y) = of_numbers lt_z (value_now x) (value_now y)
  atom_now (Equal x y) = of_numbers eq_z (value_now x) (value_now y)
  atom_now (Window c s from to) = of_number (seen c s) (in_window from to)
  atom_now (Pinned c s) = seen_pinned (seen c s)

  -- whether the newest row is the first one, and the truths on the row before
  module _ (first : Bool) (before : ℕ → Bool) where
    -- part i, from the truths of the parts that it names on this row; X, U and R never come here
    unfoldable pub truth_from : ℕ → View → (ℕ → Bool) → Bool
    truth_from i (view.Atom x) m = atom_now x
    truth_from i (view.Operator (One Not a)) m = not (m a)
    truth_from i (view.Operator (One Next a)) m = false
    truth_from i (view.Operator (One Yesterday a)) m = cond first false (before a)
    truth_from i (view.Operator (One WeakYesterday a)) m = cond first true (before a)
    truth_from i (view.Operator (Two And a b)) m = m a && m b
    truth_from i (view.Operator (Two Or a b)) m = m a || m b
    truth_from i (view.Operator (Two Until a b)) m = false
    truth_from i (view.Operator (Two Release a b)) m = false
    truth_from i (view.Operator (Two Since a b)) m = m b || (m a && cond first false (before i))
    truth_from i (view.Operator (Two Trigger a b)) m = m b && (m a || cond first true (before i))

-- the published truth of a formula on the newest row; with no row there is none
unfoldable pub HoldsNow : Formula → List Row → Type 0
HoldsNow f [] = ⊥
HoldsNow f (row ∷ rows) = Holds (run_of (row ∷ rows)) f (length rows)

-- the row that is k rows back
unfoldable pub row_back : List Row → ℕ → Row
row_back [] k = λ c. before_run
row_back (row ∷ rows) zero = row
row_back (row ∷ rows) (suc k) = row_back rows k
