-- How far back a term reaches, and which positions are looked at. Assumes nothing.
use Rattle.std.specs.Prelude.{ℕ, suc, ◌+◌, ◌*◌, ◌≡◌, true, ℤ, pos, negsuc}
use Rattle.cltlb.specs.Fits.{term_fits, atom_fits}
use Rattle.cltlb.specs.declared.Term.{Term}
use Rattle.cltlb.specs.declared.Term.TheVariants.{Constant, Reading}
use Rattle.cltlb.specs.declared.Atom.{Atom}
use Rattle.plan.specs.declared.sizes.Sizes.{Sizes}
use Rattle.verdict.specs.declared.Comparison.{Comparison}
use Rattle.verdict.specs.declared.Relation.TheVariants.{Pinned}

-- how far back a shift and a term reach
unfoldable pub back : ℤ → ℕ
back (pos n) = 0
back (negsuc n) = suc n

unfoldable pub reach : Term → ℕ
reach (Constant z) = 0
reach (Reading channel shift) = back shift

-- an atom fits some number of channels
abbrev pub FitsSome : Atom → Type 0
FitsSome x = (v : ℕ) × (atom_fits v x ≡ true)

-- both terms of a comparison fit the plan's channels
abbrev pub TermsFit : Sizes → Comparison → Type 0
TermsFit z x = (term_fits z.channels x.left ≡ true) × (term_fits z.channels x.right ≡ true)

-- a comparison that asks nothing of its right term does not reach back by that
abbrev pub AsksLeft : Comparison → Type 0
AsksLeft x = x.relation ≡ Pinned → reach x.right ≡ 0

-- the latest position at which a term is looked at: what it reads, at most 4 later, is in reach of the lookups
abbrev pub latest : Sizes → ℕ
latest z = z.start + 1016 * z.cycle

-- the latest position from which on a verdict is given: the passes from there on that are looked at one by one, at most 4, are
-- no later than that
abbrev pub latest_from : Sizes → ℕ
latest_from z = z.start + 1000 * z.cycle
