-- Bytes written over a part of a list: parts lent and given back, and neighbouring writes. Assumes nothing.
use Prim.Native.Nat.{ℕ, ◌+◌, ◌-◌, ◌≤◌}
use native.Mathlib.Omega.{arith}
use mathlib.Core.Path.{◌≡◌, sym, ap, ◌∙◌}
use mathlib.Core.List.{List, ◌++◌, append_assoc}
use lib.ListN.{length, take, drop, length-append, length-take, length-drop, take-append-drop}
use lib.Seq.{drop-append-le, drop-drop}
use borrow.Rule.Slice.PartMut.{put_mid}
use Rattle.rule.specs.Put.{overwritten}

-- a part from a to e was lent, and came back with w over its front
pub lent_front : (l ys w : List ℕ) (a e m : ℕ) → length w ≡ m → a ≤ e → e ≤ length l → m ≤ e - a → ys ≡ w ++ drop m (take (e - a) (drop a l))
    → put_mid a (e - a) l ys ≡ overwritten l a w
unfolding overwritten
lent_front l ys w a e m n h k g p =
    let long : m ≤ length (take (e - a) (drop a l)) = simp (length-take, length-drop) (omega arith) in
    ap (λ (y : List ℕ). take a l ++ (y ++ drop (e - a) (drop a l))) p
    ∙ ap (λ (y : List ℕ). take a l ++ y)
    (append_assoc w (drop m (take (e - a) (drop a l))) (drop (e - a) (drop a l))
    ∙ ap (λ (y : List ℕ). w ++ y)
    (sym (drop-append-le m (take (e - a) (drop a l)) (drop (e - a) (drop a l)) long)
    ∙ ap (drop m) (take-append-drop (e - a) (drop a l))
    ∙ drop-drop m a l
    ∙ ap (λ (i : ℕ). drop (a + i) l) (sym n)))

pub overwritten_length : (l w : List ℕ) (a : ℕ) → a + length w ≤ length l → length (overwritten l a w) ≡ length l
unfolding overwritten
overwritten_length l w a h = simp (length-append, length-take, length-drop) (omega arith)
