-- An operand's twelve bytes: read back they are the operand, and an operand that was read has the bytes that it was read
-- from. Assumes nothing.
use Rattle.std.specs.Prelude.{Option, Some, None}
use Prim.Native.Nat.{ℕ, zero, suc, ◌+◌, ◌≤◌, ◌<◌}
use native.Mathlib.Omega.{arith}
use mathlib.Core.Path.{◌≡◌, refl, sym, ap, ap₂, ◌∙◌, subst, subst⁻¹}
use mathlib.Core.List.{List, [], ◌∷◌, ◌++◌, append_assoc}
use mathlib.Core.Bool.{Bool, true, false, cond, and-eq-true_iff}
use lib.Dec.{eqb}
use lib.IntN.{ℤ}
use lib.ListN.{length, take, drop, replicate, length-append, length-take, length-drop, length-replicate}
use borrow.Author.Tests.{eqb-true}
use Rattle.fields.specs.LittleEndian.{number_at, bytes_of}
use Rattle.fields.specs.inner.Ranges.{Bytes}
use Rattle.fields.proofs.Widths.{length_bytes, read_written, written_read}
use Rattle.cltlb.specs.declared.Term.{Term}
use Rattle.cltlb.specs.declared.Term.TheVariants.{Constant, Reading}
use Rattle.rule.specs.declared.operands.Operand.{Operand}
use Rattle.rule.specs.declared.operands.Operand.TheVariants.{Terms, One, Two, Window, Pinned}
use Rattle.rule.specs.declared.operands.Shape.{Shape}
use Rattle.rule.specs.declared.operands.Shape.TheVariants as S
use Rattle.cltlb.specs.declared.Atom.TheVariants as atom
use Rattle.cltlb.specs.declared.Operator.TheVariants as operator
use Rattle.cltlb.specs.declared.View.{View}
use Rattle.cltlb.specs.declared.View.TheVariants as view
use Rattle.cltlb.specs.Week.{week}
use Rattle.cltlb.specs.Fits.{term_fits, view_fits}
use Rattle.cltlb.proofs.Fits.{less_fits, equal_fits, window_fits_lem, pinned_fits, ends_fit, atom_fits_lem, operator_fits, one_lower, two_lower}
use Rattle.rule.specs.Terms.{term_bytes, term_at}
use Rattle.rule.specs.Operands.{end_bytes, operand_bytes, all_zero, both_terms, window_over, pinned_over, operand_at}
use Rattle.rule.specs.Kinds.{operand_in}
use Rattle.rule.specs.inner.Words.{WordTerm, WordOperand}
use Rattle.rule.proofs.Laid.{shape_in}
use Rattle.rule.proofs.Overwritten.{between}
use Rattle.rule.proofs.TermsWritten.{term_length}
use Rattle.rule.proofs.TermsLaid.{term_read, term_laid}
use Rattle.rule.proofs.Padding.{parted}
use Rattle.rule.proofs.OperandsRead.{both_read, one_read, two_read, window_read, pinned_read}

-- padding is zeros
zeros_read : (n : ℕ) → all_zero (replicate n 0) ≡ true
unfolding all_zero
zeros_read zero = refl
zeros_read (suc n) = zeros_read n

zeros_laid : (l : List ℕ) → all_zero l ≡ true → l ≡ replicate (length l) 0
unfolding all_zero
zeros_laid [] h = refl
zeros_laid (b ∷ bs) h =
    let p = (and-eq-true_iff (eqb b 0) (all_zero bs)).0 h in ap₂ (λ (x : ℕ) (l : List ℕ). x ∷ l) (eqb-true b 0 p.0) (zeros_laid bs p.1)

-- two fields behind p, the second by itself
second : (p a b r : List ℕ) → p ++ ((a ++ b) ++ r) ≡ (p ++ a) ++ (b ++ r)
second p a b r = ap (λ (t : List ℕ). p ++ t) (append_assoc a b r) ∙ sym (append_assoc p a (b ++ r))

first : (p a b r : List ℕ) → p ++ ((a ++ b) ++ r) ≡ p ++ (a ++ (b ++ r))
first p a b r = ap (λ (t : List ℕ). p ++ t) (append_assoc a b r)

behind : (p a : List ℕ) (n m : ℕ) → length p ≡ n → length a ≡ m → length (p ++ a) ≡ n + m
behind p a n m e f = length-append p a ∙ omega arith

-- two numbers of two bytes from `at` on, and k zero bytes behind them
pub record Pair (s : List ℕ) (at a b k : ℕ) : Type 0 where
  pub first_number : number_at 2 s at ≡ a
  pub second_number : number_at 2 s (at + 2) ≡ b
  pub zeros : all_zero (take k (drop (at + 4) s)) ≡ true

module _ (l r : List ℕ) (at : ℕ) (e : length l ≡ at) where
  terms_read : (v : ℕ) (x y : Term) → v ≤ 8 → term_fits v x ≡ true → term_fits v y ≡ true → WordTerm x → WordTerm y
      → operand_at S.Comparison (l ++ ((term_bytes x ++ term_bytes y) ++ r)) at ≡ Some (Terms x y)
  terms_read v x y h f g a b =
      sym (both_read (l ++ ((term_bytes x ++ term_bytes y) ++ r)) at
      (ap (λ (s : List ℕ). term_at s at) (first l (term_bytes x) (term_bytes y) r) ∙ term_read v x l (term_bytes y ++ r) at e h f a)
      (ap (λ (s : List ℕ). term_at s (at + 6)) (second l (term_bytes x) (term_bytes y) r)
      ∙ term_read v y (l ++ term_bytes x) r (at + 6) (behind l (term_bytes x) at 6 e (term_length x)) h g b))

  one_back : (a : ℕ) → a < 65536 → operand_at S.NamesOne (l ++ ((bytes_of 2 a ++ replicate 10 0) ++ r)) at ≡ Some (One a)
  one_back a h =
      sym (one_read (l ++ ((bytes_of 2 a ++ replicate 10 0) ++ r)) at
      (ap (λ (s : List ℕ). all_zero (take 10 (drop (at + 2) s))) (second l (bytes_of 2 a) (replicate 10 0) r)
      ∙ ap all_zero (between (l ++ bytes_of 2 a) (replicate 10 0) r (at + 2) 10 (behind l (bytes_of 2 a) at 2 e (length_bytes 2 a)) refl)
      ∙ zeros_read 10)
      (sym (ap (λ (s : List ℕ). number_at 2 s at) (first l (bytes_of 2 a) (replicate 10 0) r)
      ∙ read_written 2 a l (replicate 10 0 ++ r) at e (omega arith))))

  -- two numbers of two bytes, and zeros behind them
  pair_read : (a b k : ℕ) → a < 65536 → b < 65536 → Pair (l ++ ((bytes_of 2 a ++ (bytes_of 2 b ++ replicate k 0)) ++ r)) at a b k
  pair_read a b k h i =
      let two : length (l ++ bytes_of 2 a) ≡ at + 2 = behind l (bytes_of 2 a) at 2 e (length_bytes 2 a) in
      let four : length ((l ++ bytes_of 2 a) ++ bytes_of 2 b) ≡ at + 4 = behind (l ++ bytes_of 2 a) (bytes_of 2 b) (at + 2) 2 two (length_bytes 2 b) ∙ omega arith in
      let later : l ++ ((bytes_of 2 a ++ (bytes_of 2 b ++ replicate k 0)) ++ r) ≡ (l ++ bytes_of 2 a) ++ ((bytes_of 2 b ++ replicate k 0) ++ r) =
      second l (bytes_of 2 a) (bytes_of 2 b ++ replicate k 0) r in
      record {
        first_number =
            ap (λ (s : List ℕ). number_at 2 s at) (first l (bytes_of 2 a) (bytes_of 2 b ++ replicate k 0) r)
            ∙ read_written 2 a l ((bytes_of 2 b ++ replicate k 0) ++ r) at e (omega arith);
        second_number =
            ap (λ (s : List ℕ). number_at 2 s (at + 2)) (later ∙ first (l ++ bytes_of 2 a) (bytes_of 2 b) (replicate k 0) r)
            ∙ read_written 2 b (l ++ bytes_of 2 a) (replicate k 0 ++ r) (at + 2) two (omega arith);
        zeros =
            ap (λ (s : List ℕ). all_zero (take k (drop (at + 4) s))) (later ∙ second (l ++ bytes_of 2 a) (bytes_of 2 b) (replicate k 0) r)
            ∙ ap all_zero (between ((l ++ bytes_of 2 a) ++ bytes_of 2 b) (replicate k 0) r (at + 4) k four (length-replicate k 0))
            ∙ zeros_read k;
      }

module _ (l r : List ℕ) (at : ℕ) (e : length l ≡ at) where
  two_back : (a b : ℕ) → a < 65536 → b < 65536
      → operand_at S.NamesTwo (l ++ ((bytes_of 2 a ++ (bytes_of 2 b ++ replicate 8 0)) ++ r)) at ≡ Some (Two a b)
  two_back a b h k =
      let p = pair_read l r at e a b 8 h k in
      sym (two_read (l ++ ((bytes_of 2 a ++ (bytes_of 2 b ++ replicate 8 0)) ++ r)) at p.zeros (sym p.first_number) (sym p.second_number))

  -- the ends of a window are such a pair behind its reading
  window_back : (v c : ℕ) (d : ℤ) (from to : ℕ) → v ≤ 8 → term_fits v (Reading c d) ≡ true → from < 65536 → to < 65536
      → operand_at S.Window (l ++ ((term_bytes (Reading c d) ++ end_bytes from to) ++ r)) at ≡ Some (Window c d from to)
  unfolding WordTerm
  window_back v c d from to h f i j =
      let ends : List ℕ = end_bytes from to in
      let s : List ℕ = l ++ ((term_bytes (Reading c d) ++ ends) ++ r) in
      let six : length (l ++ term_bytes (Reading c d)) ≡ at + 6 = behind l (term_bytes (Reading c d)) at 6 e (term_length (Reading c d)) in
      let p : Pair s (at + 6) from to 2 =
      subst⁻¹ (λ (t : List ℕ). Pair t (at + 6) from to 2) (second l (term_bytes (Reading c d)) ends r)
      (pair_read (l ++ term_bytes (Reading c d)) r (at + 6) six from to 2 i j) in
      let eight : at + 8 ≡ at + 6 + 2 = omega arith in
      let ten : at + 10 ≡ at + 6 + 4 = omega arith in
      sym (window_read s at
      (ap (λ (k : ℕ). all_zero (take 2 (drop k s))) ten ∙ p.zeros)
      (ap (λ (t : List ℕ). term_at t at) (first l (term_bytes (Reading c d)) ends r) ∙ term_read v (Reading c d) l (ends ++ r) at e h f tt)
      (sym p.first_number)
      (sym (ap (number_at 2 s) eight ∙ p.second_number)))

  -- six zeros behind a reading alone
  pinned_back : (v c : ℕ) (d : ℤ) → v ≤ 8 → term_fits v (Reading c d) ≡ true
      → operand_at S.Pinned (l ++ ((term_bytes (Reading c d) ++ replicate 6 0) ++ r)) at ≡ Some (Pinned c d)
  unfolding WordTerm
  pinned_back v c d h f =
      let six : length (l ++ term_bytes (Reading c d)) ≡ at + 6 = behind l (term_bytes (Reading c d)) at 6 e (term_length (Reading c d)) in
      sym (pinned_read (l ++ ((term_bytes (Reading c d) ++ replicate 6 0) ++ r)) at
      (ap (λ (s : List ℕ). all_zero (take 6 (drop (at + 6) s))) (second l (term_bytes (Reading c d)) (replicate 6 0) r)
      ∙ ap all_zero (between (l ++ term_bytes (Reading c d)) (replicate 6 0) r (at + 6) 6 six refl)
      ∙ zeros_read 6)
      (ap (λ (s : List ℕ). term_at s at) (first l (term_bytes (Reading c d)) (replicate 6 0) r)
      ∙ term_read v (Reading c d) l (replicate 6 0 ++ r) at e h f tt))

  -- The operand of a part that fits is read back off its bytes.
  module _ (v n : ℕ) (h : v ≤ 8) (k : n ≤ 64) where
    pub operand_read : (x : View) → view_fits v n x ≡ true → WordOperand (operand_in x)
        → operand_at (shape_in (operand_in x)) (l ++ (operand_bytes (operand_in x) ++ r)) at ≡ Some (operand_in x)
    unfolding operand_bytes WordOperand
    operand_read (view.Atom (atom.Less x y)) f w =
        let p = less_fits v x y (atom_fits_lem v n (atom.Less x y) f) in terms_read l r at e v x y h p.0 p.1 w.0 w.1
    operand_read (view.Atom (atom.Equal x y)) f w =
        let p = equal_fits v x y (atom_fits_lem v n (atom.Equal x y) f) in terms_read l r at e v x y h p.0 p.1 w.0 w.1
    operand_read (view.Atom (atom.Window c d from to)) f w =
        let p = window_fits_lem v c d from to (atom_fits_lem v n (atom.Window c d from to) f) in
        let ends = ends_fit from to p.1 in
        let low : from < week = ends.from_fits in
        let high : to < week = ends.to_fits in
        window_back v c d from to h p.0 (omega arith) (omega arith)
    operand_read (view.Atom (atom.Pinned c d)) f w = pinned_back v c d h (pinned_fits v c d (atom_fits_lem v n (atom.Pinned c d) f))
    operand_read (view.Operator (operator.One o a)) f w =
        let low : a < n = one_lower n o a (operator_fits v n (operator.One o a) f) in one_back l r at e a (omega arith)
    operand_read (view.Operator (operator.Two o a b)) f w =
        let p = two_lower n o a b (operator_fits v n (operator.Two o a b) f) in
        let low_a : a < n = p.0 in
        let low_b : b < n = p.1 in
        two_back a b (omega arith) (omega arith)

-- what an operand that was read says of the twelve bytes from `at` on
module _ (s : List ℕ) (at : ℕ) (bytes : Bytes s) (long : at + 12 ≤ length s) where
  abbrev Lies : Shape → Operand → Type 0
  Lies k o = (shape_in o ≡ k) × (take 12 (drop at s) ≡ operand_bytes o) × WordOperand o

  abbrev Says : Shape → Option Operand → Type 0
  Says k t = (o : Operand) → t ≡ Some o → Lies k o

  name : (a : ℕ) → a + 2 ≤ length s → take 2 (drop a s) ≡ bytes_of 2 (number_at 2 s a)
  name a h = sym (written_read 2 s a bytes h)

  padding : (a n : ℕ) → a + n ≤ length s → all_zero (take n (drop a s)) ≡ true → take n (drop a s) ≡ replicate n 0
  padding a n h z =
      let size : length (take n (drop a s)) ≡ n = simp (length-take, length-drop) (omega arith) in
      zeros_laid (take n (drop a s)) z ∙ ap (λ (i : ℕ). replicate i 0) size

  of_broken : (k : Shape) → Says k None
  of_broken k o e = absurd (let z : ◌≡◌ {A = ℕ} 0 1 = cc in omega arith)

  of_operand : (k : Shape) (x : Operand) → Lies k x → Says k (Some x)
  of_operand k x p o e = let same : x ≡ o = cc in subst (Lies k) same p

  -- two numbers of two bytes, and zeros behind them
  pair_laid : (a k : ℕ) → a + 4 + k ≤ length s → all_zero (take k (drop (a + 4) s)) ≡ true
      → take (2 + (2 + k)) (drop a s) ≡ bytes_of 2 (number_at 2 s a) ++ (bytes_of 2 (number_at 2 s (a + 2)) ++ replicate k 0)
  pair_laid a k h z =
      let four : a + 2 + 2 ≡ a + 4 = omega arith in
      let end : take k (drop (a + 2 + 2) s) ≡ replicate k 0 = ap (λ (i : ℕ). take k (drop i s)) four ∙ padding (a + 4) k h z in
      let rest : take (2 + k) (drop (a + 2) s) ≡ bytes_of 2 (number_at 2 s (a + 2)) ++ replicate k 0 =
      parted s (a + 2) 2 k ∙ ap₂ (λ (x y : List ℕ). x ++ y) (name (a + 2) (omega arith)) end in
      parted s a 2 (2 + k) ∙ ap₂ (λ (x y : List ℕ). x ++ y) (name a (omega arith)) rest

  of_terms : (x y : Term) → (take 6 (drop at s) ≡ term_bytes x) × WordTerm x → (take 6 (drop (at + 6) s) ≡ term_bytes y) × WordTerm y
      → Says S.Comparison (Some (Terms x y))
  unfolding operand_bytes WordOperand
  of_terms x y p q =
      of_operand S.Comparison (Terms x y) (refl, parted s at 6 6 ∙ ap₂ (λ (a b : List ℕ). a ++ b) p.0 q.0, (p.1, q.1))

  of_one : (b : Bool) → all_zero (take 10 (drop (at + 2) s)) ≡ b → Says S.NamesOne (cond b (Some (One (number_at 2 s at))) None)
  unfolding operand_bytes WordOperand
  of_one true z =
      of_operand S.NamesOne (One (number_at 2 s at))
      (refl, parted s at 2 10 ∙ ap₂ (λ (a b : List ℕ). a ++ b) (name at (omega arith)) (padding (at + 2) 10 (omega arith) z), tt)
  of_one false z = of_broken S.NamesOne

  of_two : (b : Bool) → all_zero (take 8 (drop (at + 4) s)) ≡ b
      → Says S.NamesTwo (cond b (Some (Two (number_at 2 s at) (number_at 2 s (at + 2)))) None)
  unfolding operand_bytes WordOperand
  of_two true z = of_operand S.NamesTwo (Two (number_at 2 s at) (number_at 2 s (at + 2))) (refl, pair_laid at 8 (omega arith) z, tt)
  of_two false z = of_broken S.NamesTwo

  -- the ends of a window are such a pair behind its reading
  of_window : (c : ℕ) (d : ℤ) → take 6 (drop at s) ≡ term_bytes (Reading c d) → all_zero (take 2 (drop (at + 10) s)) ≡ true
      → Says S.Window (Some (Window c d (number_at 2 s (at + 6)) (number_at 2 s (at + 8))))
  unfolding operand_bytes WordOperand
  of_window c d p z =
      let eight : at + 6 + 2 ≡ at + 8 = omega arith in
      let ten : at + 6 + 4 ≡ at + 10 = omega arith in
      let ends : take 6 (drop (at + 6) s) ≡ end_bytes (number_at 2 s (at + 6)) (number_at 2 s (at + 8)) =
      pair_laid (at + 6) 2 (omega arith) (ap (λ (i : ℕ). all_zero (take 2 (drop i s))) ten ∙ z)
      ∙ ap (λ (i : ℕ). end_bytes (number_at 2 s (at + 6)) (number_at 2 s i)) eight in
      of_operand S.Window (Window c d (number_at 2 s (at + 6)) (number_at 2 s (at + 8)))
      (refl, parted s at 6 6 ∙ ap₂ (λ (a b : List ℕ). a ++ b) p ends, tt)

  of_pinned : (c : ℕ) (d : ℤ) → take 6 (drop at s) ≡ term_bytes (Reading c d) → all_zero (take 6 (drop (at + 6) s)) ≡ true
      → Says S.Pinned (Some (Pinned c d))
  unfolding operand_bytes WordOperand
  of_pinned c d p z =
      of_operand S.Pinned (Pinned c d) (refl, parted s at 6 6 ∙ ap₂ (λ (a b : List ℕ). a ++ b) p (padding (at + 6) 6 (omega arith) z), tt)

  by_terms : (t u : Option Term) → term_at s at ≡ t → term_at s (at + 6) ≡ u → Says S.Comparison (both_terms t u)
  unfolding both_terms
  by_terms None u p q = of_broken S.Comparison
  by_terms (Some x) None p q = of_broken S.Comparison
  by_terms (Some x) (Some y) p q =
      of_terms x y (term_laid s at bytes (omega arith) x p) (term_laid s (at + 6) bytes (omega arith) y q)

  by_window : (b : Bool) (t : Option Term) → all_zero (take 2 (drop (at + 10) s)) ≡ b → term_at s at ≡ t
      → Says S.Window (cond b (window_over t (number_at 2 s (at + 6)) (number_at 2 s (at + 8))) None)
  unfolding window_over
  by_window false t z p = of_broken S.Window
  by_window true None z p = of_broken S.Window
  by_window true (Some (Constant x)) z p = of_broken S.Window
  by_window true (Some (Reading c d)) z p = of_window c d (term_laid s at bytes (omega arith) (Reading c d) p).0 z

  by_pinned : (b : Bool) (t : Option Term) → all_zero (take 6 (drop (at + 6) s)) ≡ b → term_at s at ≡ t → Says S.Pinned (cond b (pinned_over t) None)
  unfolding pinned_over
  by_pinned false t z p = of_broken S.Pinned
  by_pinned true None z p = of_broken S.Pinned
  by_pinned true (Some (Constant x)) z p = of_broken S.Pinned
  by_pinned true (Some (Reading c d)) z p = of_pinned c d (term_laid s at bytes (omega arith) (Reading c d) p).0 z

  -- An operand that was read lies in the bytes.
  pub operand_laid : (k : Shape) (o : Operand) → operand_at k s at ≡ Some o
      → (shape_in o ≡ k) × (take 12 (drop at s) ≡ operand_bytes o) × WordOperand o
  unfolding operand_at
  operand_laid S.Comparison = by_terms (term_at s at) (term_at s (at + 6)) refl refl
  operand_laid S.NamesOne = of_one (all_zero (take 10 (drop (at + 2) s))) refl
  operand_laid S.NamesTwo = of_two (all_zero (take 8 (drop (at + 4) s))) refl
  operand_laid S.Window = by_window (all_zero (take 2 (drop (at + 10) s))) (term_at s at) refl refl
  operand_laid S.Pinned = by_pinned (all_zero (take 6 (drop (at + 6) s))) (term_at s at) refl refl
  operand_laid S.Unknown = of_broken S.Unknown
