-- What is asked of the bytes of a term and of an operand before a part is made of them, and what is made then. Assumes nothing.
use Rattle.std.specs.Prelude.{Option, Some, None, ℕ, ◌≡◌, Bool, true, false, ◌&&◌, ltb}
use Rattle.cltlb.specs.declared.Term.{Term}
use Rattle.cltlb.specs.declared.Term.TheVariants.{Constant, Reading}
use Rattle.cltlb.specs.declared.Part.{Part}
use Rattle.cltlb.specs.Fits.{term_fits, window_fits}
use Rattle.rule.specs.declared.operands.Operand.{Operand}
use Rattle.rule.specs.declared.operands.Operand.TheVariants.{Terms, One, Two, Window, Pinned}
use Rattle.rule.specs.declared.operands.Shape.{Shape}
use Rattle.rule.specs.declared.operands.Shape.TheVariants as S
use Rattle.rule.specs.Kinds.{part_of}

-- a term, and one that fits V channels
unfoldable pub term_sound : ℕ → Option Term → Bool
term_sound v (Some x) = term_fits v x
term_sound v None = false

-- a constant, which always fits
unfoldable pub constant_sound : Option Term → Bool
constant_sound (Some (Constant z)) = true
constant_sound (Some (Reading channel shift)) = false
constant_sound None = false

-- a reading, and one that fits
unfoldable pub reading_sound : ℕ → Option Term → Bool
reading_sound v (Some (Constant z)) = false
reading_sound v (Some (Reading channel shift)) = term_fits v (Reading channel shift)
reading_sound v None = false

-- an operand of part n: its terms fit V channels, the parts that it names are lower, the ends of its window fit the week
unfoldable pub operand_fits : ℕ → ℕ → Operand → Bool
operand_fits v n (Terms x y) = term_fits v x && term_fits v y
operand_fits v n (One a) = ltb a n
operand_fits v n (Two a b) = ltb a n && ltb b n
operand_fits v n (Window channel shift from to) = term_fits v (Reading channel shift) && window_fits from to
operand_fits v n (Pinned channel shift) = term_fits v (Reading channel shift)

-- the shapes of atoms, which name no part
abbrev pub of_atom : Shape → Bool
of_atom S.Comparison = true
of_atom S.NamesOne = false
of_atom S.NamesTwo = false
of_atom S.Window = true
of_atom S.Pinned = true
of_atom S.Unknown = false

-- an operand, and one that fits
unfoldable pub operand_sound : ℕ → ℕ → Option Operand → Bool
operand_sound v n (Some x) = operand_fits v n x
operand_sound v n None = false

-- the term that was read, if one was
unfoldable pub IsTerm : Option Term → Term → Type 0
IsTerm (Some x) y = y ≡ x
IsTerm None y = Unit {0}

-- the part of a kind with the operand that was read, if one was
unfoldable pub IsPart : ℕ → Option Operand → Part → Type 0
IsPart k (Some x) p = p ≡ part_of k x
IsPart k None p = Unit {0}
