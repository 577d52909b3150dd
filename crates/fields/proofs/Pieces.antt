-- Pieces laid one after another: how long they are, what lies around one of them, and a list cut into pieces.
-- Assumes nothing.
use Prim.Native.Nat.{ℕ, zero, suc, ◌+◌, ◌*◌, ◌<◌}
use native.Mathlib.Decide.{dec_lt}
use native.Mathlib.Omega.{arith}
use mathlib.Core.Path.{◌≡◌, refl, sym, ap, ap₂, ◌∙◌}
use mathlib.Core.List.{List, [], ◌++◌, append_assoc, append-nil}
use mathlib.Core.Logic.{by_cases}
use lib.ListN.{length, get_or, take, drop, length-append, get_or-append}
use lib.Seq.{get_or-append-add, take-add, drop-drop}
use Rattle.fields.specs.Pieces.{pieces}

-- A byte behind a front of a known length.
pub behind : (front rest : List ℕ) (n k : ℕ) → length front ≡ n → get_or (front ++ rest) (n + k) 0 ≡ get_or rest k 0
behind front rest n k e = ap (λ (m : ℕ). get_or (front ++ rest) (m + k) 0) (sym e) ∙ get_or-append-add front rest k 0

module _ (f : ℕ → List ℕ) where
  -- Pieces of one length.
  pub length-pieces : (d : ℕ) → ((i : ℕ) → length (f i) ≡ d) → (n : ℕ) → length (pieces f n) ≡ n * d
  unfolding pieces
  length-pieces d h zero = omega arith
  length-pieces d h (suc n) = length-append (pieces f n) (f n) ∙ (let e = length-pieces d h n in let g = h n in omega arith)

  -- The pieces before piece i, piece i, and those behind it.
  pub split : (n i : ℕ) → i < n → (rest : List ℕ) × (pieces f n ≡ pieces f i ++ (f i ++ rest))
  unfolding pieces
  split zero i l = absurd (omega arith)
  split (suc n) i l =
      let lower = split n i in
      by_cases (dec_lt i n)
      (λ q. let s = lower q in (
        s.0 ++ f n,
        ap (λ (x : List ℕ). x ++ f n) s.1 ∙ append_assoc (pieces f i) (f i ++ s.0) (f n) ∙ ap (λ (x : List ℕ). pieces f i ++ x) (append_assoc (f i) s.0 (f n)),
      ))
      (λ q. let e : n ≡ i = omega arith in ([], ap (λ (x : ℕ). pieces f x ++ f x) e ∙ ap (λ (x : List ℕ). pieces f i ++ x) (sym (append-nil (f i)))))

  -- Byte k of piece i, all pieces being of one length.
  pub piece_byte : (d : ℕ) → ((i : ℕ) → length (f i) ≡ d) → (n i k : ℕ) → i < n → k < d → get_or (pieces f n) (i * d + k) 0 ≡ get_or (f i) k 0
  piece_byte d h n i k l q =
      let whole = split n i l in
      ap (λ (x : List ℕ). get_or x (i * d + k) 0) whole.1
      ∙ behind (pieces f i) (f i ++ whole.0) (i * d) k (length-pieces d h i)
      ∙ get_or-append (f i) whole.0 0 k (let e = h i in omega arith)

-- The same pieces.
pub same_pieces : (f g : ℕ → List ℕ) (n : ℕ) → ((i : ℕ) → i < n → f i ≡ g i) → pieces f n ≡ pieces g n
unfolding pieces
same_pieces f g zero h = refl
same_pieces f g (suc n) h = ap₂ (λ (x y : List ℕ). x ++ y) (same_pieces f g n (λ i l. h i (omega arith))) (h n (omega arith))

-- n pieces of d bytes cut from a list, from `base` on, are its bytes there.
pub cut_pieces : (l : List ℕ) (base d n : ℕ) → pieces (λ i. take d (drop (base + i * d) l)) n ≡ take (n * d) (drop base l)
unfolding pieces
cut_pieces l base d zero = let e : 0 ≡ 0 * d = omega arith in ap (λ (k : ℕ). take k (drop base l)) e
cut_pieces l base d (suc n) =
    let e : n * d + d ≡ suc n * d = omega arith in
    ap₂ (λ (x y : List ℕ). x ++ y) (cut_pieces l base d n) (ap (take d) (sym (drop-drop (n * d) base l)))
    ∙ sym (take-add (n * d) d (drop base l))
    ∙ ap (λ (k : ℕ). take k (drop base l)) e
