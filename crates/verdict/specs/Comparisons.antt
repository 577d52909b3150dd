-- The atoms as comparisons of two terms, by their relation: how two numbers, two terms that are seen and two lines are compared.
-- Assumes nothing.
use Rattle.std.specs.Prelude.{Bool, true, false, ℤ, pos}
use Rattle.std.specs.Int.Signed.{lt_z}
use Rattle.cltlb.specs.Run.{Seen, number, pinned, before_run}
use Rattle.cltlb.specs.declared.Term.{Term}
use Rattle.cltlb.specs.declared.Term.TheVariants.{Constant, Reading}
use Rattle.cltlb.specs.declared.Atom.{Atom}
use Rattle.cltlb.specs.declared.Atom.TheVariants as atom
use Rattle.verdict.specs.Lines.{Line, eq_z, judge_less, judge_equal}
use Rattle.verdict.specs.Weeks.{minutes_after, within, judge_within}
use Rattle.verdict.specs.declared.Verdict.{Verdict}
use Rattle.verdict.specs.declared.Verdict.TheVariants.{AlwaysFalse}
use Rattle.verdict.specs.declared.Relation.{Relation}
use Rattle.verdict.specs.declared.Relation.TheVariants.{Below, Same, Within, Pinned}
use Rattle.verdict.specs.declared.Comparison.{Comparison}

abbrev pub comparison : Relation → Term → Term → Comparison
comparison relation x y = record { relation = relation; left = x; right = y }

-- the comparison that an atom is; the reading of a window is fewer minutes after `from` than `to` is, and kind 14 asks nothing of a
-- second term
abbrev pub comparison_of : Atom → Comparison
comparison_of (atom.Less x y) = comparison Below x y
comparison_of (atom.Equal x y) = comparison Same x y
comparison_of (atom.Window c s from to) = comparison (Within (minutes_after (pos to) (pos from))) (Reading c s) (Constant (pos from))
comparison_of (atom.Pinned c s) = comparison Pinned (Reading c s) (Constant (pos 0))

-- the test of two numbers; no number is pinned
abbrev pub test_of : Relation → ℤ → ℤ → Bool
test_of Below = lt_z
test_of Same = eq_z
test_of (Within n) = within n
test_of Pinned = λ a b. false

-- a test of the number that is seen; false where none is
unfoldable pub of_number : Seen → (ℤ → Bool) → Bool
of_number (number a) test = test a
of_number pinned test = false
of_number before_run test = false

-- whether what is seen is pinned
unfoldable pub seen_pinned : Seen → Bool
seen_pinned (number a) = false
seen_pinned pinned = true
seen_pinned before_run = false

-- a test of the two numbers that are seen
unfoldable pub of_numbers : (ℤ → ℤ → Bool) → Seen → Seen → Bool
of_numbers test x y = of_number x (λ a. of_number y (λ b. test a b))

-- the test of what is seen of two terms
unfoldable pub tested : Relation → Seen → Seen → Bool
tested Below = of_numbers (test_of Below)
tested Same = of_numbers (test_of Same)
tested (Within n) = of_numbers (test_of (Within n))
tested Pinned = λ x y. seen_pinned x

-- the verdict on two lines
abbrev pub judge_lines : Relation → Line → Line → Verdict
judge_lines Below = judge_less
judge_lines Same = judge_equal
judge_lines (Within n) = judge_within n
judge_lines Pinned = λ x y. AlwaysFalse
