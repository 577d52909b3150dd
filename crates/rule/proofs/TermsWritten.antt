-- A term's six bytes, by its fields. Assumes nothing.
use Prim.Native.Nat.{ℕ, ◌≤◌}
use native.Mathlib.Omega.{arith}
use mathlib.Core.Path.{◌≡◌, refl, subst⁻¹}
use mathlib.Core.List.{List, [], ◌∷◌, ◌++◌}
use lib.ListN.{length, drop, set}
use lib.IntN.{ℤ}
use Rattle.fields.specs.LittleEndian.{bytes_of}
use Rattle.fields.specs.TwosComplement.{pattern_of}
use Rattle.fields.specs.inner.Ranges.{SignedFits}
use Rattle.cltlb.specs.declared.Term.{Term}
use Rattle.cltlb.specs.declared.Term.TheVariants as T
use Rattle.rule.specs.Terms.{code_of, term_bytes}
use Rattle.rule.specs.Put.{overwritten}
use Rattle.rule.specs.inner.Words.{WordTerm}

pub term_length : (x : Term) → length (term_bytes x) ≡ 6
unfolding term_bytes bytes_of
term_length (T.Constant z) = refl
term_length (T.Reading k d) = refl

-- form and shift code stored, and the number written behind them
pub fields : (t : List ℕ) (form code n : ℕ) → 6 ≤ length t → overwritten (set (set t 0 form) 1 code) 2 (bytes_of 4 n) ≡ form ∷ code ∷ (bytes_of 4 n ++ drop 6 t)
unfolding overwritten bytes_of
fields [] form code n h = absurd (omega arith)
fields (x ∷ []) form code n h = absurd (omega arith)
fields (x ∷ y ∷ r) form code n h = refl

pub constant_bytes : {x : Term} {z : ℤ} {n : ℕ} (t : List ℕ) → x ≡ T.Constant z → n ≡ pattern_of 4 z → 0 ∷ 4 ∷ (bytes_of 4 n ++ drop 6 t) ≡ term_bytes x ++ drop 6 t
unfolding term_bytes
constant_bytes t e f = rw (e, f) refl

pub reading_bytes : {x : Term} {k : ℕ} {d : ℤ} {q : ℕ} (t : List ℕ) → x ≡ T.Reading k d → q ≡ code_of d → 1 ∷ q ∷ (bytes_of 4 k ++ drop 6 t) ≡ term_bytes x ++ drop 6 t
unfolding term_bytes
reading_bytes t e f = rw (e, f) refl

-- a term of code: its constant is a number of four bytes
pub constant_word : {x : Term} {z : ℤ} → x ≡ T.Constant z → SignedFits 4 z → WordTerm x
unfolding WordTerm
constant_word e f = subst⁻¹ WordTerm e f

pub reading_word : {x : Term} {k : ℕ} {d : ℤ} → x ≡ T.Reading k d → WordTerm x
unfolding WordTerm
reading_word e = subst⁻¹ WordTerm e tt
