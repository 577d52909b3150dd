-- An operand in twelve bytes: two terms, one named part or two, a window, or a reading alone. Assumes nothing.
use Rattle.std.specs.Prelude.{Option, Some, None, ℕ, ◌+◌, List, [], ◌∷◌, ◌++◌, Bool, true, ◌&&◌, cond, eqb, take, drop, replicate}
use Rattle.cltlb.specs.declared.Term.{Term}
use Rattle.fields.specs.LittleEndian.{number_at, bytes_of}
use Rattle.cltlb.specs.declared.Term.TheVariants.{Constant, Reading}
use Rattle.rule.specs.Terms.{term_bytes, term_at}
use Rattle.rule.specs.declared.operands.Operand.{Operand}
use Rattle.rule.specs.declared.operands.Operand.TheVariants.{Terms, One, Two, Window, Pinned}
use Rattle.rule.specs.declared.operands.Shape.{Shape}
use Rattle.rule.specs.declared.operands.Shape.TheVariants as S

-- from and to of a window, 2 bytes each, then 2 zero bytes
abbrev pub end_bytes : ℕ → ℕ → List ℕ
end_bytes from to = bytes_of 2 from ++ (bytes_of 2 to ++ replicate 2 0)

-- A comparison: a left and a right term of 6 bytes each. One named part: 2 bytes, then 10 zero bytes. Two: 2 bytes each,
-- then 8 zero bytes. A window: a term of 6 bytes that is a reading, then its two ends. A reading that is
-- pinned: such a term, then 6 zero bytes.
unfoldable pub operand_bytes : Operand → List ℕ
operand_bytes (Terms left right) = term_bytes left ++ term_bytes right
operand_bytes (One a) = bytes_of 2 a ++ replicate 10 0
operand_bytes (Two a b) = bytes_of 2 a ++ (bytes_of 2 b ++ replicate 8 0)
operand_bytes (Window channel shift from to) = term_bytes (Reading channel shift) ++ end_bytes from to
operand_bytes (Pinned channel shift) = term_bytes (Reading channel shift) ++ replicate 6 0

unfoldable pub all_zero : List ℕ → Bool
all_zero [] = true
all_zero (b ∷ bs) = eqb b 0 && all_zero bs

unfoldable pub both_terms : Option Term → Option Term → Option Operand
both_terms None y = None
both_terms (Some a) None = None
both_terms (Some a) (Some b) = Some (Terms a b)

-- a window over a term, which is a reading
unfoldable pub window_over : Option Term → ℕ → ℕ → Option Operand
window_over None from to = None
window_over (Some (Constant z)) from to = None
window_over (Some (Reading channel shift)) from to = Some (Window channel shift from to)

-- that a term, which is a reading, is pinned
unfoldable pub pinned_over : Option Term → Option Operand
pinned_over None = None
pinned_over (Some (Constant z)) = None
pinned_over (Some (Reading channel shift)) = Some (Pinned channel shift)

-- the operand that the twelve bytes from `at` on stand for, by what its kind asks for
unfoldable pub operand_at : Shape → List ℕ → ℕ → Option Operand
operand_at S.Comparison s at = both_terms (term_at s at) (term_at s (at + 6))
operand_at S.NamesOne s at = cond (all_zero (take 10 (drop (at + 2) s))) (Some (One (number_at 2 s at))) None
operand_at S.NamesTwo s at =
    cond (all_zero (take 8 (drop (at + 4) s))) (Some (Two (number_at 2 s at) (number_at 2 s (at + 2)))) None
operand_at S.Window s at =
    cond (all_zero (take 2 (drop (at + 10) s))) (window_over (term_at s at) (number_at 2 s (at + 6)) (number_at 2 s (at + 8))) None
operand_at S.Pinned s at = cond (all_zero (take 6 (drop (at + 6) s))) (pinned_over (term_at s at)) None
operand_at S.Unknown s at = None
