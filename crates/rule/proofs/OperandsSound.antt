-- An operand by the tests that are made of its bytes, and the part that is made of them. Assumes nothing.
use Rattle.std.specs.Prelude.{Option, Some, None}
use Rattle.rule.specs.declared.operands.Operand.{Operand}
use Prim.Native.Nat.{ℕ, ◌+◌, ◌≤◌, ◌<◌}
use native.Mathlib.Omega.{arith}
use mathlib.Core.Path.{◌≡◌, refl, ap, ap₂, ◌∙◌}
use mathlib.Core.List.{List, [], ◌∷◌}
use mathlib.Core.Bool.{Bool, true, false, cond, ◌&&◌}
use lib.Dec.{ltb}
use lib.ListN.{length, get_or, take, drop}
use lib.IntN.{ℤ}
use types.Run.{OneOf, miss}
use denote.Enum.Declared.{tag_of}
use Rattle.fields.specs.LittleEndian.{number_at}
use Rattle.cltlb.specs.declared.Term.{Term}
use Rattle.cltlb.specs.declared.Term.TheVariants.{Constant, Reading}
use Rattle.cltlb.specs.declared.Part.{Part}
use Rattle.cltlb.specs.declared.Part.TheVariants as part
use Rattle.cltlb.specs.Fits.{term_fits, window_fits}
use Rattle.cltlb.proofs.Fits.{reading_fits}
use Rattle.rule.specs.declared.operands.Operand.TheVariants.{Terms, One, Two}
use Rattle.rule.specs.declared.operands.Shape.{Shape}
use Rattle.rule.specs.declared.operands.Shape.TheVariants as S
use Rattle.rule.specs.Terms.{shift_of, term_at}
use Rattle.rule.specs.Operands.{all_zero, both_terms, window_over, pinned_over, operand_at}
use Rattle.rule.specs.Kinds.{is_unknown, part_of}
use Rattle.rule.specs.inner.Sound.{term_sound, reading_sound, operand_fits, of_atom, operand_sound, IsTerm, IsPart}
use Rattle.rule.specs.contracts.operands.Shape.{the_type}
use Rattle.rule.proofs.Padding.{six_zero}
use Rattle.rule.proofs.TermsRead.{by_form}

never : (b : Bool) → b && false ≡ false
never true = refl
never false = refl

-- what is there by a test is sound where it is and the test holds
by_test : (v n : ℕ) (b : Bool) (x : Option Operand) → operand_sound v n x && b ≡ operand_sound v n (cond b x None)
unfolding operand_sound
by_test v n true x = go (operand_sound v n x)
  where
    go : (b : Bool) → b && true ≡ b
    go true = refl
    go false = refl
by_test v n false x = never (operand_sound v n x)

-- and the part of it is the part there
made : (k : ℕ) (b : Bool) (x : Option Operand) (p : Part) → IsPart k x p → IsPart k (cond b x None) p
unfolding IsPart
made k true x p e = e
made k false x p e = tt

both_sound : (v n : ℕ) (t u : Option Term) → term_sound v t && term_sound v u ≡ operand_sound v n (both_terms t u)
unfolding term_sound operand_sound operand_fits both_terms
both_sound v n None u = refl
both_sound v n (Some x) None = never (term_fits v x)
both_sound v n (Some x) (Some y) = refl

both_made : (k : ℕ) (t u : Option Term) (x y : Term) {p : Part} → IsTerm t x → IsTerm u y → p ≡ part_of k (Terms x y) → IsPart k (both_terms t u) p
unfolding IsTerm IsPart both_terms
both_made k None u x y e f g = tt
both_made k (Some a) None x y e f g = tt
both_made k (Some a) (Some b) x y e f g = g ∙ ap (part_of k) (ap₂ Terms e f)

over_sound : (v n : ℕ) (t : Option Term) (from to : ℕ) → reading_sound v t && window_fits from to ≡ operand_sound v n (window_over t from to)
unfolding reading_sound operand_sound operand_fits window_over
over_sound v n None from to = refl
over_sound v n (Some (Constant z)) from to = refl
over_sound v n (Some (Reading c d)) from to = refl

-- a window of any part by the tests that are made of its bytes
pub window_tested : (s : List ℕ) (at v : ℕ) {a b c : Bool} {from to : ℕ} → a ≡ reading_sound v (term_at s at) → b ≡ window_fits from to
    → from ≡ number_at 2 s (at + 6) → to ≡ number_at 2 s (at + 8) → c ≡ all_zero (take 2 (drop (at + 10) s))
    → (n : ℕ) → (a && b) && c ≡ operand_sound v n (operand_at S.Window s at)
unfolding operand_at
window_tested s at v e f g h i n =
    rw (e, f, g, h, i, over_sound v n (term_at s at) (number_at 2 s (at + 6)) (number_at 2 s (at + 8)))
    (by_test v n (all_zero (take 2 (drop (at + 10) s))) (window_over (term_at s at) (number_at 2 s (at + 6)) (number_at 2 s (at + 8))))

alone_sound : (v n : ℕ) (t : Option Term) → reading_sound v t ≡ operand_sound v n (pinned_over t)
unfolding reading_sound operand_sound operand_fits pinned_over
alone_sound v n None = refl
alone_sound v n (Some (Constant z)) = refl
alone_sound v n (Some (Reading c d)) = refl

and_same : (a : Bool) {b c : Bool} → (a ≡ true → b ≡ c) → a && b ≡ a && c
and_same true h = h refl
and_same false h = refl

-- and a reading alone, whose channel is so low that the zero bytes begin before it ends
module _ (s : List ℕ) (at v : ℕ) (long : at + 12 ≤ length s) (few : v ≤ 8) where
  channel_low : reading_sound v (term_at s at) ≡ true → number_at 4 s (at + 2) < 65536
  unfolding reading_sound
  channel_low =
      by_form s at (λ (t : Option Term). reading_sound v t ≡ true → number_at 4 s (at + 2) < 65536)
      (λ f c h. absurd (let z : ◌≡◌ {A = ℕ} 0 1 = cc in omega arith))
      (λ f h. let low : number_at 4 s (at + 2) < v = (reading_fits v _ _ h).0 in omega arith)
      (λ f h. absurd (let z : ◌≡◌ {A = ℕ} 0 1 = cc in omega arith))

  pub pinned_tested : {a b : Bool} → a ≡ reading_sound v (term_at s at) → b ≡ all_zero (take 8 (drop (at + 4) s))
      → (n : ℕ) → a && b ≡ operand_sound v n (operand_at S.Pinned s at)
  unfolding operand_at
  pinned_tested e f n =
      ap₂ ◌&&◌ e f
      ∙ and_same (reading_sound v (term_at s at)) (λ h. six_zero s at long (channel_low h))
      ∙ ap (λ (b : Bool). b && all_zero (take 6 (drop (at + 6) s))) (alone_sound v n (term_at s at))
      ∙ by_test v n (all_zero (take 6 (drop (at + 6) s))) (pinned_over (term_at s at))

-- of known shapes those that are left when those with names are told apart,
pub left_atoms : (k : Shape) → OneOf (0 ∷ 3 ∷ 4 ∷ 5 ∷ []) (tag_of the_type k) → is_unknown k ≡ false → of_atom k ≡ true
left_atoms S.Comparison h e = refl
left_atoms S.NamesOne h e = absurd (miss (0 ∷ 3 ∷ 4 ∷ 5 ∷ []) 1 tt h)
left_atoms S.NamesTwo h e = absurd (miss (0 ∷ 3 ∷ 4 ∷ 5 ∷ []) 2 tt h)
left_atoms S.Window h e = refl
left_atoms S.Pinned h e = refl
left_atoms S.Unknown h e = absurd (let z : ◌≡◌ {A = ℕ} 0 1 = cc in omega arith)

-- and of atoms' shapes that which is left when a window and a pinned reading are
pub left_comparison : (k : Shape) → (k ≡ S.Window → ⊥) → (k ≡ S.Pinned → ⊥) → of_atom k ≡ true → k ≡ S.Comparison
left_comparison S.Comparison w p e = refl
left_comparison S.NamesOne w p e = absurd (let z : ◌≡◌ {A = ℕ} 0 1 = cc in omega arith)
left_comparison S.NamesTwo w p e = absurd (let z : ◌≡◌ {A = ℕ} 0 1 = cc in omega arith)
left_comparison S.Window w p e = absurd (w refl)
left_comparison S.Pinned w p e = absurd (p refl)
left_comparison S.Unknown w p e = absurd (let z : ◌≡◌ {A = ℕ} 0 1 = cc in omega arith)

module _ (s : List ℕ) (at : ℕ) {shape : Shape} where
  module _ (v n : ℕ) where
    pub terms_sound : shape ≡ S.Comparison → {a b : Bool} → a ≡ term_sound v (term_at s at) → b ≡ term_sound v (term_at s (at + 6))
        → a && b ≡ operand_sound v n (operand_at shape s at)
    unfolding operand_at
    terms_sound c e f = rw c (ap₂ ◌&&◌ e f ∙ both_sound v n (term_at s at) (term_at s (at + 6)))

    pub one_sound : shape ≡ S.NamesOne → {r : Bool} → r ≡ (ltb (number_at 2 s at) n && all_zero (take 10 (drop (at + 2) s)))
        → r ≡ operand_sound v n (operand_at shape s at)
    unfolding operand_at operand_sound operand_fits
    one_sound c e = rw c (e ∙ by_test v n (all_zero (take 10 (drop (at + 2) s))) (Some (One (number_at 2 s at))))

    pub two_sound : shape ≡ S.NamesTwo → {r : Bool} → r ≡ ((ltb (number_at 2 s at) n && ltb (number_at 2 s (at + 2)) n) && all_zero (take 8 (drop (at + 4) s)))
        → r ≡ operand_sound v n (operand_at shape s at)
    unfolding operand_at operand_sound operand_fits
    two_sound c e = rw c (e ∙ by_test v n (all_zero (take 8 (drop (at + 4) s))) (Some (Two (number_at 2 s at) (number_at 2 s (at + 2)))))

    -- a shape of which the definition was asked
    pub shape_sound : {k : Shape} → shape ≡ k → {r : Bool} → r ≡ operand_sound v n (operand_at k s at) → r ≡ operand_sound v n (operand_at shape s at)
    shape_sound c e = rw c e

  module _ (k : ℕ) {p : Part} where
    pub terms_part : shape ≡ S.Comparison → (x y : Term) → IsTerm (term_at s at) x → IsTerm (term_at s (at + 6)) y → p ≡ part_of k (Terms x y)
        → IsPart k (operand_at shape s at) p
    unfolding operand_at
    terms_part c x y e f g = rw c (both_made k (term_at s at) (term_at s (at + 6)) x y e f g)

    pub one_part : shape ≡ S.NamesOne → {a : ℕ} → a ≡ number_at 2 s at → p ≡ part_of k (One a) → IsPart k (operand_at shape s at) p
    unfolding operand_at IsPart
    one_part c e g = rw c (made k (all_zero (take 10 (drop (at + 2) s))) (Some (One (number_at 2 s at))) p (g ∙ ap (λ (a : ℕ). part_of k (One a)) e))

    pub two_part : shape ≡ S.NamesTwo → {a b : ℕ} → a ≡ number_at 2 s at → b ≡ number_at 2 s (at + 2) → p ≡ part_of k (Two a b) → IsPart k (operand_at shape s at) p
    unfolding operand_at IsPart
    two_part c e f g =
        rw c (made k (all_zero (take 8 (drop (at + 4) s))) (Some (Two (number_at 2 s at) (number_at 2 s (at + 2)))) p (g ∙ ap (part_of k) (ap₂ Two e f)))

  pub window_part : (k : ℕ) → shape ≡ S.Window → {c from to : ℕ} {d : ℤ} → c ≡ number_at 4 s (at + 2) → d ≡ shift_of (get_or s (at + 1) 0)
      → from ≡ number_at 2 s (at + 6) → to ≡ number_at 2 s (at + 8) → IsPart k (operand_at shape s at) (part.Window c d from to)
  unfolding operand_at window_over IsPart part_of
  window_part k h e f g i =
      rw (h, e, f, g, i)
      (made k (all_zero (take 2 (drop (at + 10) s))) (window_over (term_at s at) (number_at 2 s (at + 6)) (number_at 2 s (at + 8))) _
      (by_form s at
      (λ (t : Option Term).
      IsPart k (window_over t (number_at 2 s (at + 6)) (number_at 2 s (at + 8)))
      (part.Window (number_at 4 s (at + 2)) (shift_of (get_or s (at + 1) 0)) (number_at 2 s (at + 6)) (number_at 2 s (at + 8))))
      (λ p q. tt) (λ p. refl) (λ p. tt)))

  pub pinned_part : (k : ℕ) → shape ≡ S.Pinned → {c : ℕ} {d : ℤ} → c ≡ number_at 4 s (at + 2) → d ≡ shift_of (get_or s (at + 1) 0)
      → IsPart k (operand_at shape s at) (part.Pinned c d)
  unfolding operand_at pinned_over IsPart part_of
  pinned_part k h e f =
      rw (h, e, f)
      (made k (all_zero (take 6 (drop (at + 6) s))) (pinned_over (term_at s at)) _
      (by_form s at (λ (t : Option Term). IsPart k (pinned_over t) (part.Pinned (number_at 4 s (at + 2)) (shift_of (get_or s (at + 1) 0))))
      (λ p q. tt) (λ p. refl) (λ p. tt)))

  pub none_part : (k : ℕ) (p : Part) → shape ≡ S.Unknown → IsPart k (operand_at shape s at) p
  unfolding operand_at IsPart
  none_part k p c = rw c tt
