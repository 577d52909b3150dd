-- An operand's twelve bytes, written as neighbouring fields or as names over zeros. Assumes nothing.
use Prim.Native.Nat.{ℕ, ◌+◌, ◌-◌, ◌≤◌}
use native.Mathlib.Omega.{arith}
use mathlib.Core.Path.{◌≡◌, refl, sym, ap, ap₂, ◌∙◌, subst⁻¹}
use mathlib.Core.List.{List, ◌++◌, append_assoc}
use mathlib.Core.Bool.{true}
use lib.IntN.{ℤ}
use lib.ListN.{length, take, drop, replicate, length-append, length-drop}
use lib.Seq.{take_at, drop_at, drop-drop}
use borrow.Rule.Slice.PartMut.{put_mid}
use Rattle.fields.specs.LittleEndian.{bytes_of}
use Rattle.cltlb.specs.declared.Term.{Term}
use Rattle.cltlb.specs.declared.Term.TheVariants.{Reading}
use Rattle.cltlb.specs.declared.Atom.{Atom}
use Rattle.cltlb.specs.declared.Atom.TheVariants as atom
use Rattle.cltlb.specs.declared.Operator.{Operator}
use Rattle.cltlb.specs.declared.Operator.TheVariants as operator
use Rattle.cltlb.specs.declared.View.{View}
use Rattle.cltlb.specs.declared.View.TheVariants as view
use Rattle.cltlb.specs.Fits.{term_fits, window_fits, atom_fits}
use Rattle.cltlb.proofs.Fits.{window_fits_lem, pinned_fits}
use Rattle.rule.specs.Kinds.{operand_in}
use Rattle.rule.specs.declared.operands.Operand.{Operand}
use Rattle.rule.specs.declared.operands.Operand.TheVariants.{Terms, One, Two, Window, Pinned}
use Rattle.rule.specs.Terms.{term_bytes}
use Rattle.rule.specs.Operands.{end_bytes, operand_bytes}
use Rattle.rule.specs.Put.{overwritten}
use Rattle.rule.specs.inner.Words.{WordTerm, WordOperand}
use Rattle.rule.proofs.Overwriting.{lent_front}
use Rattle.rule.proofs.TermsWritten.{term_length}

pub operand_length : (x : Operand) → length (operand_bytes x) ≡ 12
unfolding operand_bytes bytes_of
operand_length (Terms a b) = length-append (term_bytes a) (term_bytes b) ∙ (let e = term_length a in let f = term_length b in omega arith)
operand_length (One a) = refl
operand_length (Two a b) = refl
operand_length (Window channel shift from to) =
    length-append (term_bytes (Reading channel shift)) (end_bytes from to) ∙ omega (arith, term_length (Reading channel shift))
operand_length (Pinned channel shift) =
    length-append (term_bytes (Reading channel shift)) (replicate 6 0) ∙ omega (arith, term_length (Reading channel shift))

-- a field w right behind the field v at the front, in the part lent from there on
field_behind : (t l zs v w : List ℕ) (m k : ℕ) → l ≡ v ++ drop m t → length v ≡ m → length w ≡ k → m + k ≤ length t
    → zs ≡ w ++ drop k (take (length l - m) (drop m l)) → put_mid m (length l - m) l zs ≡ (v ++ w) ++ drop (m + k) t
unfolding overwritten
field_behind t l zs v w m k e n q h z =
    let size : length l ≡ length t = ap length e ∙ simp (length-append, length-drop) (omega arith) in
    let front : take m l ≡ v = ap (take m) e ∙ take_at v (drop m t) m n in
    let rest : drop (m + length w) l ≡ drop (m + k) t =
    ap (λ (i : ℕ). drop (m + i) l) q ∙ sym (drop-drop k m l) ∙ ap (drop k) (ap (drop m) e ∙ drop_at v (drop m t) m n) ∙ drop-drop k m t in
    lent_front l zs w m (length l) k q (omega arith) (omega arith) (omega arith) z
    ∙ ap₂ (λ (a b : List ℕ). a ++ (w ++ b)) front rest
    ∙ sym (append_assoc v w (drop (m + k) t))

module _ (t : List ℕ) (long : 12 ≤ length t) where
  pub two_terms : (l zs : List ℕ) (x y : Term) → l ≡ term_bytes x ++ drop 6 t → zs ≡ term_bytes y ++ drop 6 (take (length l - 6) (drop 6 l))
      → put_mid 6 (length l - 6) l zs ≡ operand_bytes (Terms x y) ++ drop 12 t
  unfolding operand_bytes
  two_terms l zs x y e z = field_behind t l zs (term_bytes x) (term_bytes y) 6 6 e (term_length x) (term_length y) long z

  -- the ends of a window behind its reading
  pub window_ends : (l zs : List ℕ) (x : Term) (from to : ℕ) → l ≡ term_bytes x ++ drop 6 t
      → zs ≡ end_bytes from to ++ drop 6 (take (length l - 6) (drop 6 l))
      → put_mid 6 (length l - 6) l zs ≡ (term_bytes x ++ end_bytes from to) ++ drop 12 t
  unfolding bytes_of
  window_ends l zs x from to e z = field_behind t l zs (term_bytes x) (end_bytes from to) 6 6 e (term_length x) refl long z

  -- a reading over zeros
  pub lone_reading : (l : List ℕ) (x : Term) → l ≡ replicate 12 0 ++ drop 12 t → term_bytes x ++ drop 6 l ≡ (term_bytes x ++ replicate 6 0) ++ drop 12 t
  lone_reading l x e = ap (λ (l : List ℕ). term_bytes x ++ drop 6 l) e ∙ sym (append_assoc (term_bytes x) (replicate 6 0) (drop 12 t))

  pub one_name : (l : List ℕ) (a : ℕ) → l ≡ replicate 12 0 ++ drop 12 t → bytes_of 2 a ++ drop 2 l ≡ operand_bytes (One a) ++ drop 12 t
  unfolding operand_bytes bytes_of
  one_name l a e = ap (λ (l : List ℕ). bytes_of 2 a ++ drop 2 l) e

  -- the second name over the zeros behind the first
  pub two_names : (l zs : List ℕ) (a b : ℕ) → l ≡ operand_bytes (One a) ++ drop 12 t → zs ≡ bytes_of 2 b ++ drop 2 (take (length l - 2) (drop 2 l))
      → put_mid 2 (length l - 2) l zs ≡ operand_bytes (Two a b) ++ drop 12 t
  unfolding operand_bytes bytes_of
  two_names l zs a b e z =
      field_behind (replicate 12 0 ++ drop 12 t) l zs (bytes_of 2 a) (bytes_of 2 b) 2 2 e refl refl (omega (arith, length-append (replicate 12 0) (drop 12 t))) z

-- the second end of a window behind the first, and the zeros behind both
module _ (t : List ℕ) (from to : ℕ) (long : 6 ≤ length t) where
  pub to_behind : (l zs : List ℕ) → l ≡ bytes_of 2 from ++ drop 2 t → zs ≡ bytes_of 2 to ++ drop 2 (take (length l - 2) (drop 2 l))
      → put_mid 2 (length l - 2) l zs ≡ (bytes_of 2 from ++ bytes_of 2 to) ++ drop 4 t
  unfolding bytes_of
  to_behind l zs e z = field_behind t l zs (bytes_of 2 from) (bytes_of 2 to) 2 2 e refl refl (omega arith) z

  pub zeros_behind : (l zs : List ℕ) → l ≡ (bytes_of 2 from ++ bytes_of 2 to) ++ drop 4 t → zs ≡ bytes_of 2 0 ++ drop 2 (take (length l - 4) (drop 4 l))
      → put_mid 4 (length l - 4) l zs ≡ end_bytes from to ++ drop 6 t
  unfolding bytes_of
  zeros_behind l zs e z = field_behind t l zs (bytes_of 2 from ++ bytes_of 2 to) (bytes_of 2 0) 4 2 e refl refl long z

-- an operand of code: its constants are numbers of four bytes
pub terms_word : (left right : Term) → WordTerm left → WordTerm right → WordOperand (Terms left right)
unfolding WordOperand
terms_word left right a b = (a, b)

pub names_word : (x : Operator) → WordOperand (operand_in (view.Operator x))
unfolding WordOperand
names_word (operator.One o a) = tt
names_word (operator.Two o a b) = tt

-- what the writers of operands ensure, of the bytes before and after
abbrev pub OperandPut : List ℕ → List ℕ → View → Type 0
OperandPut before after x = (after ≡ operand_bytes (operand_in x) ++ drop 12 before) × WordOperand (operand_in x)

pub names_put : (t l : List ℕ) {x y : Operator} → x ≡ y → l ≡ operand_bytes (operand_in (view.Operator y)) ++ drop 12 t → OperandPut t l (view.Operator x)
names_put t l {x} e f = (f ∙ sym (ap (λ (o : Operator). operand_bytes (operand_in (view.Operator o)) ++ drop 12 t) e), names_word x)

-- A window, by its reading with a shift that is the same number: it fits where they do, and it is put where they are.
module _ {x : Atom} {c from to : ℕ} {d u : ℤ} (e : x ≡ atom.Window c d from to) (f : u ≡ d) where
  pub window_asks : (v : ℕ) → atom_fits v x ≡ true → (term_fits v (Reading c u) ≡ true) × (window_fits from to ≡ true)
  window_asks v h =
      let p = window_fits_lem v c d from to (ap (atom_fits v) (sym e) ∙ h) in (ap (λ (z : ℤ). term_fits v (Reading c z)) f ∙ p.0, p.1)

  pub window_put : (t l : List ℕ) → l ≡ (term_bytes (Reading c u) ++ end_bytes from to) ++ drop 12 t → OperandPut t l (view.Atom x)
  unfolding operand_bytes WordOperand
  window_put t l g =
      subst⁻¹ (λ (y : Atom). OperandPut t l (view.Atom y)) e
      (g ∙ ap (λ (z : ℤ). (term_bytes (Reading c z) ++ end_bytes from to) ++ drop 12 t) f, tt)

-- A pinned reading likewise.
module _ {x : Atom} {c : ℕ} {d u : ℤ} (e : x ≡ atom.Pinned c d) (f : u ≡ d) where
  pub pinned_asks : (v : ℕ) → atom_fits v x ≡ true → term_fits v (Reading c u) ≡ true
  pinned_asks v h = ap (λ (z : ℤ). term_fits v (Reading c z)) f ∙ pinned_fits v c d (ap (atom_fits v) (sym e) ∙ h)

  pub pinned_put : (t l : List ℕ) → l ≡ (term_bytes (Reading c u) ++ replicate 6 0) ++ drop 12 t → OperandPut t l (view.Atom x)
  unfolding operand_bytes WordOperand
  pinned_put t l g =
      subst⁻¹ (λ (y : Atom). OperandPut t l (view.Atom y)) e
      (g ∙ ap (λ (z : ℤ). (term_bytes (Reading c z) ++ replicate 6 0) ++ drop 12 t) f, tt)
