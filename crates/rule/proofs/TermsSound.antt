-- A term by the tests that are made of its bytes, and by the bytes that it is made of. Assumes nothing.
use Rattle.std.specs.Prelude.{Option, Some, None}
use Prim.Native.Nat.{ℕ, ◌+◌}
use mathlib.Core.Path.{◌≡◌, refl, sym, ap, ap₂, ◌∙◌}
use mathlib.Core.List.{List}
use mathlib.Core.Bool.{Bool, true, false, cond, ◌&&◌, ◌||◌}
use lib.Dec.{eqb, ltb, leb}
use lib.ListN.{get_or}
use lib.IntN.{ℤ}
use borrow.Author.Tests.{ne_eqb}
use Rattle.fields.specs.LittleEndian.{number_at}
use Rattle.fields.specs.TwosComplement.{signed_at}
use Rattle.cltlb.specs.declared.Term.{Term}
use Rattle.cltlb.specs.declared.Term.TheVariants as T
use Rattle.cltlb.specs.Fits.{shift_fits, term_fits}
use Rattle.rule.specs.Terms.{shift_of, term_at}
use Rattle.rule.specs.inner.Sound.{constant_sound, reading_sound, term_sound, IsTerm}
use Rattle.rule.proofs.Shifts.{code_tested}
use Rattle.rule.proofs.TermsRead.{by_form}

-- a term that is there by a test is the term there
made : (b : Bool) {x y : Term} → y ≡ x → IsTerm (cond b (Some x) None) y
unfolding IsTerm
made true e = e
made false e = tt

-- A term is sound as a constant or as a reading.
pub term_sound_lem : (v : ℕ) (t : Option Term) {a b : Bool} → a ≡ constant_sound t → b ≡ reading_sound v t → a || b ≡ term_sound v t
unfolding constant_sound reading_sound term_sound term_fits
term_sound_lem v (Some (T.Constant z)) e f = ap₂ ◌||◌ e f
term_sound_lem v (Some (T.Reading c d)) e f = ap₂ ◌||◌ e f
term_sound_lem v None e f = ap₂ ◌||◌ e f

-- Where it is a constant nothing else is asked.
pub sound_constant : (v : ℕ) (t : Option Term) {a : Bool} → a ≡ constant_sound t → a ≡ true → true ≡ term_sound v t
sound_constant v t e h = term_sound_lem v t (sym h ∙ e) refl

pub sound_reading : (v : ℕ) (t : Option Term) {a b : Bool} → a ≡ constant_sound t → a ≡ false → b ≡ reading_sound v t → b ≡ term_sound v t
sound_reading v t e h f = term_sound_lem v t (sym h ∙ e) f

module _ (s : List ℕ) (at : ℕ) where
  pub constant_sound_lem : eqb (get_or s at 0) 0 && eqb (get_or s (at + 1) 0) 4 ≡ constant_sound (term_at s at)
  unfolding term_at constant_sound
  constant_sound_lem = go (eqb (get_or s at 0) 0) (eqb (get_or s (at + 1) 0) 4) (eqb (get_or s at 0) 1)
    where
      go : (zero four one : Bool)
          → zero && four
          ≡ constant_sound
          (cond zero (cond four (Some (T.Constant (signed_at 4 s (at + 2)))) None)
          (cond one (Some (T.Reading (number_at 4 s (at + 2)) (shift_of (get_or s (at + 1) 0)))) None))
      go true true one = refl
      go true false one = refl
      go false four true = refl
      go false four false = refl

  pub reading_sound_lem : (v : ℕ) {u : ℕ} → u ≡ number_at 4 s (at + 2)
      → eqb (get_or s at 0) 1 && (ltb u v && leb (get_or s (at + 1) 0) 8) ≡ reading_sound v (term_at s at)
  unfolding reading_sound term_fits
  reading_sound_lem v e =
      rw (e, ← code_tested (get_or s (at + 1) 0))
      (by_form s at
      (λ (t : Option Term). eqb (get_or s at 0) 1 && (ltb (number_at 4 s (at + 2)) v && shift_fits (shift_of (get_or s (at + 1) 0))) ≡ reading_sound v t)
      (λ f c. rw f refl) (λ f. rw f refl) (λ f. rw f refl))

  pub constant_on : {z : ℤ} → get_or s at 0 ≡ 0 → z ≡ signed_at 4 s (at + 2) → IsTerm (term_at s at) (T.Constant z)
  unfolding term_at
  constant_on p e = rw p (made (eqb (get_or s (at + 1) 0) 4) (ap T.Constant e))

  pub reading_on_lem : {u : ℕ} {d : ℤ} → (get_or s at 0 ≡ 0 → ⊥) → u ≡ number_at 4 s (at + 2) → d ≡ shift_of (get_or s (at + 1) 0)
      → IsTerm (term_at s at) (T.Reading u d)
  unfolding term_at
  reading_on_lem p e f = rw (ne_eqb _ _ p) (made (eqb (get_or s at 0) 1) (rw (e, f) refl))
