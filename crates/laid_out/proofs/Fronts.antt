-- Lists whose fronts are written over, piece behind piece: a part from a place on is lent, and comes back with other bytes at its
-- front. Assumes nothing.
use Prim.Native.Nat.{ℕ, ◌+◌, ◌*◌, ◌-◌, ◌≤◌, ◌<◌}
use native.Mathlib.Nat.{mul-le-mul_right}
use native.Mathlib.Numerals.{add-one}
use native.Mathlib.Omega.{arith}
use mathlib.Core.Path.{◌≡◌, refl, sym, ap, ◌∙◌}
use mathlib.Core.List.{List, [], ◌++◌, append_assoc, append-nil}
use lib.ListN.{length, take, drop, length-append, length-take, length-drop, drop_of_length-le}
use lib.Seq.{take_at, drop_at, take_all, drop-drop}
use borrow.Rule.Slice.PartMut.{mid_of, put_mid}
use Rattle.fields.specs.Pieces.{pieces}
use Rattle.fields.proofs.Pieces.{length-pieces}
use Rattle.laid_out.specs.inner.Fronted.{fronted}

-- A front of a known length.
pub as_front : (old w : List ℕ) (n : ℕ) {new : List ℕ} → length w ≡ n → new ≡ w ++ drop n old → new ≡ fronted old w
unfolding fronted
as_front old w n e h = h ∙ ap (λ (i : ℕ). w ++ drop i old) (sym e)

module _ (s : List ℕ) where
  -- Nothing is written.
  pub front_none : s ≡ fronted s []
  unfolding fronted
  front_none = refl

  pub front_long : (a : List ℕ) → length a ≤ length s → length (fronted s a) ≡ length s
  unfolding fronted
  front_long a h = length-append a (drop (length a) s) ∙ (let e = length-drop (length a) s in omega arith)

  -- More is written behind what was written, through a part that was lent from there on.
  pub front_more : (l a w ys : List ℕ) (at : ℕ) → length a ≡ at → at + length w ≤ length s → l ≡ fronted s a → ys ≡ fronted (mid_of at (length l - at) l) w
      → put_mid at (length l - at) l ys ≡ fronted s (a ++ w)
  unfolding fronted
  front_more l a w ys at e room h g =
      ap (λ (x : List ℕ). x ++ (ys ++ drop (length l - at) (drop at l))) front
      ∙ ap (λ (x : List ℕ). a ++ (ys ++ x)) (drop_of_length-le (drop at l) long)
      ∙ ap (λ (x : List ℕ). a ++ x) (append-nil ys ∙ g ∙ ap (λ (x : List ℕ). w ++ drop (length w) x) lent)
      ∙ sym (append_assoc a w (drop (length w) (drop at s)))
      ∙ ap (λ (x : List ℕ). (a ++ w) ++ x) (drop-drop (length w) at s ∙ ap (λ (i : ℕ). drop i s) (let n = length-append a w in place n))
    where
      place : length (a ++ w) ≡ length a + length w → at + length w ≡ length (a ++ w)
      place n = omega arith

      opened : l ≡ a ++ drop at s
      opened = h ∙ ap (λ (i : ℕ). a ++ drop i s) e

      front : take at l ≡ a
      front = ap (take at) opened ∙ take_at a (drop at s) at e

      rest : drop at l ≡ drop at s
      rest = ap (drop at) opened ∙ drop_at a (drop at s) at e

      long : length (drop at l) ≤ length l - at
      long = omega (arith, length-drop at l)

      lent : mid_of at (length l - at) l ≡ drop at s
      lent = take_all (length l - at) (drop at l) long ∙ rest

-- How long the part is that is lent.
pub lent_long : (l : List ℕ) (at m : ℕ) → at + m ≤ length l → (m ≤ length (mid_of at (length l - at) l)) × (length (mid_of at (length l - at) l) ≤ length l)
lent_long l at m h = simp (length-take, length-drop) (omega arith, omega arith)

-- ---- pieces of one length, written one behind another

module _ (s : List ℕ) (d v : ℕ) (f : ℕ → List ℕ) where
  -- the first k of v pieces are written
  abbrev pub Put : List ℕ → ℕ → Type 0
  Put l k = (k ≤ v) × (l ≡ fronted s (pieces f k))

  pub put_none : Put s 0
  unfolding pieces
  put_none = (omega arith, front_none s)

  module _ (each : (i : ℕ) → length (f i) ≡ d) (room : v * d ≤ length s) where
    fits : (k : ℕ) → k ≤ v → length (pieces f k) ≤ length s
    fits k h = let g : k * d ≤ v * d = mul-le-mul_right d h in let e = length-pieces f d each k in omega arith

    pub put_long : {l : List ℕ} {k : ℕ} → Put l k → length l ≡ length s
    put_long {l} {k} p = ap length p.1 ∙ front_long s (pieces f k) (fits k p.0)

    pub put_more : {l ys : List ℕ} {k at : ℕ} → k < v → at ≡ k * d → Put l k → ys ≡ fronted (mid_of at (length l - at) l) (f k) → Put (put_mid at (length l - at) l ys) (k + 1)
    unfolding pieces
    put_more {l} {ys} {k} {at} h e p g =
        let n = length-pieces f d each k in
        let q : (k + 1) * d ≤ v * d = mul-le-mul_right d (omega arith) in
        let w = each k in (
          omega arith,
          front_more s l (pieces f k) (f k) ys at (n ∙ sym e) (omega arith) p.1 g ∙ ap (λ (i : ℕ). fronted s (pieces f i)) (sym (add-one k)),
        )

    pub put_all : {l : List ℕ} {k : ℕ} → v ≤ k → Put l k → l ≡ fronted s (pieces f v)
    put_all {l} {k} h p = let e : k ≡ v = let q = p.0 in omega arith in p.1 ∙ ap (λ (i : ℕ). fronted s (pieces f i)) e
