-- A term's six bytes: read back they are the term, and a term that was read has the bytes that it was read from.
-- Assumes nothing.
use Rattle.std.specs.Prelude.{Option, Some, None}
use Prim.Native.Nat.{ℕ, suc, ◌+◌, ◌-◌, ◌^◌, ◌≤◌, ◌<◌}
use native.Mathlib.Numerals.{add-one}
use native.Mathlib.Omega.{arith}
use mathlib.Core.Path.{◌≡◌, refl, sym, ap, ap₂, ◌∙◌, subst}
use mathlib.Core.List.{List, [], ◌∷◌, ◌++◌, append_assoc}
use mathlib.Core.Bool.{Bool, true, false, cond}
use lib.Dec.{ltb}
use lib.ListN.{length, get_or, take, drop, length-append}
use lib.Seq.{drop-cons, get_or_at}
use lib.IntN.{pos, negsuc}
use borrow.Author.Tests.{ltb-true, ltb-false}
use Rattle.fields.specs.LittleEndian.{number_at, bytes_of}
use Rattle.fields.specs.inner.Ranges.{Bytes, SignedFits}
use Rattle.fields.specs.TwosComplement.{signed_of, signed_at, pattern_of}
use Rattle.fields.proofs.Widths.{number_lt, read_written, written_read}
use Rattle.fields.proofs.Patterns.{pattern_signed, signed_pattern, pattern_lt, signed_fits_lem}
use Rattle.cltlb.specs.declared.Term.{Term}
use Rattle.cltlb.specs.declared.Term.TheVariants as T
use Rattle.cltlb.specs.Fits.{term_fits}
use Rattle.cltlb.proofs.Fits.{reading_fits}
use Rattle.rule.specs.Terms.{shift_of, code_of, term_bytes, term_at}
use Rattle.rule.specs.inner.Words.{WordTerm}
use Rattle.rule.proofs.Shifts.{coded}
use Rattle.rule.proofs.TermsRead.{constant, reading, by_form}

-- every code is the code of its shift
pub code_back : (c : ℕ) → code_of (shift_of c) ≡ c
unfolding code_of shift_of
code_back c = go (ltb c 4) refl
  where
    go : (b : Bool) → ltb c 4 ≡ b → code_of (cond b (negsuc (4 - suc c)) (pos (c - 4))) ≡ c
    go true e = let h : c < 4 = ltb-true c 4 e in omega arith
    go false e = let h : 4 ≤ c = ltb-false c 4 e in omega arith

-- the three fields of six bytes between others
module _ (l r : List ℕ) (form code n at : ℕ) (e : length l ≡ at) where
  abbrev six : List ℕ
  six = l ++ (form ∷ code ∷ (bytes_of 4 n ++ r))

  form_read : get_or six at 0 ≡ form
  form_read = get_or_at l form (code ∷ (bytes_of 4 n ++ r)) 0 at e

  code_read : get_or six (at + 1) 0 ≡ code
  code_read =
      ap (λ (s : List ℕ). get_or s (at + 1) 0) (sym (append_assoc l (form ∷ []) (code ∷ (bytes_of 4 n ++ r))))
      ∙ get_or_at (l ++ (form ∷ [])) code (bytes_of 4 n ++ r) 0 (at + 1) (length-append l (form ∷ []) ∙ omega arith)

  number_read : n < 256 ^ 4 → number_at 4 six (at + 2) ≡ n
  number_read h =
      ap (λ (s : List ℕ). number_at 4 s (at + 2)) (sym (append_assoc l (form ∷ code ∷ []) (bytes_of 4 n ++ r)))
      ∙ read_written 4 n (l ++ (form ∷ code ∷ [])) r (at + 2) (length-append l (form ∷ code ∷ []) ∙ omega arith) h

-- A term that fits is read back off its bytes.
pub term_read : (v : ℕ) (x : Term) (l r : List ℕ) (at : ℕ) → length l ≡ at → v ≤ 8 → term_fits v x ≡ true → WordTerm x
    → term_at (l ++ (term_bytes x ++ r)) at ≡ Some x
unfolding term_bytes WordTerm signed_at
term_read v (T.Constant z) l r at e h f w =
    sym (constant (six l r 0 4 (pattern_of 4 z) at e) at (form_read l r 0 4 (pattern_of 4 z) at e) (code_read l r 0 4 (pattern_of 4 z) at e)
    (sym (ap (signed_of 4) (number_read l r 0 4 (pattern_of 4 z) at e (pattern_lt 4 z w)) ∙ signed_pattern 4 z w)))
term_read v (T.Reading k d) l r at e h f w =
    let p = reading_fits v k d f in
    let low : k < v = p.0 in
    let c = coded d p.1 in
    sym (reading (six l r 1 (code_of d) k at e) at (form_read l r 1 (code_of d) k at e)
    (sym (number_read l r 1 (code_of d) k at e (omega arith)))
    (sym (ap shift_of (code_read l r 1 (code_of d) k at e) ∙ c.back)))

-- what a term that was read says of the six bytes from `at` on
module _ (s : List ℕ) (at : ℕ) (bytes : Bytes s) (long : at + 6 ≤ length s) where
  split : take 6 (drop at s) ≡ get_or s at 0 ∷ get_or s (at + 1) 0 ∷ take 4 (drop (at + 2) s)
  split =
      let two : suc (suc at) ≡ at + 2 = omega arith in
      ap (take 6) (drop-cons s at 0 (omega arith) ∙ ap (λ (t : List ℕ). get_or s at 0 ∷ t) (drop-cons s (suc at) 0 (omega arith)))
      ∙ ap₂ (λ (i j : ℕ). get_or s at 0 ∷ get_or s i 0 ∷ take 4 (drop j s)) (sym (add-one at)) two

  abbrev Says : Option Term → Type 0
  Says t = (x : Term) → t ≡ Some x → (take 6 (drop at s) ≡ term_bytes x) × WordTerm x

  of_constant : get_or s at 0 ≡ 0 → get_or s (at + 1) 0 ≡ 4 → Says (Some (T.Constant (signed_at 4 s (at + 2))))
  unfolding term_bytes WordTerm signed_at
  of_constant f c (T.Constant z) e =
      let same : z ≡ signed_of 4 (number_at 4 s (at + 2)) = cc in
      let below : number_at 4 s (at + 2) < 256 ^ 4 = number_lt 4 s (at + 2) bytes in
      let pattern : number_at 4 s (at + 2) ≡ pattern_of 4 z = sym (ap (pattern_of 4) same ∙ pattern_signed 4 (number_at 4 s (at + 2)) below) in
      let kept : take 4 (drop (at + 2) s) ≡ bytes_of 4 (pattern_of 4 z) = sym (written_read 4 s (at + 2) bytes (omega arith)) ∙ ap (bytes_of 4) pattern in
      (split ∙ rw (f, c, kept) refl, subst (SignedFits 4) (sym same) (signed_fits_lem 4 (number_at 4 s (at + 2)) below))
  of_constant f c (T.Reading k d) e = absurd (let z : ◌≡◌ {A = ℕ} 0 1 = cc in omega arith)

  of_reading : get_or s at 0 ≡ 1 → Says (Some (T.Reading (number_at 4 s (at + 2)) (shift_of (get_or s (at + 1) 0))))
  unfolding term_bytes WordTerm
  of_reading f (T.Constant z) e = absurd (let z : ◌≡◌ {A = ℕ} 0 1 = cc in omega arith)
  of_reading f (T.Reading k d) e =
      let channel : k ≡ number_at 4 s (at + 2) = cc in
      let shift : d ≡ shift_of (get_or s (at + 1) 0) = cc in
      let code : get_or s (at + 1) 0 ≡ code_of d = sym (ap code_of shift ∙ code_back (get_or s (at + 1) 0)) in
      let kept : take 4 (drop (at + 2) s) ≡ bytes_of 4 k = sym (written_read 4 s (at + 2) bytes (omega arith)) ∙ ap (bytes_of 4) (sym channel) in
      (split ∙ rw (f, code, kept) refl, tt)

  of_broken : Says None
  of_broken x e = absurd (let z : ◌≡◌ {A = ℕ} 0 1 = cc in omega arith)

  -- A term that was read lies in the bytes.
  pub term_laid : (x : Term) → term_at s at ≡ Some x → (take 6 (drop at s) ≡ term_bytes x) × WordTerm x
  term_laid = by_form s at Says of_constant of_reading (λ _. of_broken)
