-- Put by the tests that it makes, one law for each way out. Assumes nothing.
use Rattle.std.specs.Prelude.{Some, None, Err}
use Rattle.refusal.specs.Outcome.{unrefused}
use Prim.Native.Nat.{ℕ, ◌+◌, ◌-◌, ◌*◌, ◌≤◌, ◌<◌}
use mathlib.Core.Path.{◌≡◌, refl, ◌∙◌}
use mathlib.Core.List.{List, ◌++◌}
use mathlib.Core.Bool.{true, false}
use lib.ListN.{length, take, drop, set, length-set}
use borrow.Rule.Slice.PartMut.{put_mid}
use native.Mathlib.Omega.{arith}
use mathlib.Core.Logic.{◌↔◌}
use lib.Dec.{ltb}
use borrow.Author.Tests.{le-ltb, lt-ltb, ltb-true}
use Rattle.refusal.specs.declared.Refusal.{Refusal}
use Rattle.refusal.specs.declared.Refusal.TheVariants.{RuleSizes, Absent}
use Rattle.refusal.specs.declared.Refusal.TheVariants as N
use Rattle.refusal.specs.First.{◌or_else◌, unless}
use Rattle.refusal.proofs.First.{or_else_clear, unless_clear}
use Rattle.cltlb.specs.declared.Part.{Part}
use Rattle.rule.specs.Layout.{part_count, channel_count, kind_place, operand_place, sizes_fit}
use Rattle.rule.specs.inner.Sizes.{sizes, sizes_of}
use Rattle.cltlb.specs.declared.View.{View}
use Rattle.cltlb.specs.Views.{view_of}
use Rattle.cltlb.specs.Fits.{view_fits}
use Rattle.cltlb.proofs.Fits.{view_more}
use Rattle.rule.specs.Operands.{operand_bytes}
use Rattle.rule.specs.Kinds.{kind_of, operand_in}
use Rattle.rule.specs.Put.{put_outcome, written, after_put, put_bytes}
use Rattle.rule.proofs.SizesRead.{wrong_sizes, right_sizes}
use Rattle.rule.proofs.SizesKnown.{sizes_known}
use Rattle.rule.proofs.Overwriting.{lent_front}
use Rattle.rule.proofs.OperandsWritten.{operand_length}

module _ (s : List ℕ) (n : ℕ) (x : Part) where
  -- A put is unrefused where the sizes fit, the part is there and the operand fits.
  pub put_clear : (put_outcome s n x ≡ unrefused) ↔ ((sizes_fit s ≡ true) × (n < part_count s) × (view_fits (channel_count s) n (view_of x) ≡ true))
  unfolding put_outcome
  put_clear =
      let a = or_else_clear (unless (sizes_fit s) RuleSizes) (unless (ltb n (part_count s)) Absent or_else unless (view_fits (channel_count s) n (view_of x)) (N.Operand n)) in
      let b = or_else_clear (unless (ltb n (part_count s)) Absent) (unless (view_fits (channel_count s) n (view_of x)) (N.Operand n)) in
      let u = unless_clear (sizes_fit s) RuleSizes in
      let v = unless_clear (ltb n (part_count s)) Absent in
      let w = unless_clear (view_fits (channel_count s) n (view_of x)) (N.Operand n) in (
        λ e. let f = a.0 e in let g = b.0 f.1 in (u.0 f.0, ltb-true n (part_count s) (v.0 g.0), w.0 g.1),
        λ h. a.1 (u.1 h.0, b.1 (v.1 (lt-ltb n (part_count s) h.1), w.1 h.2)),
      )

  -- what is known then
  pub writable : (parts : ℕ) → parts ≡ part_count s → put_outcome s n x ≡ unrefused
      → (n < parts) × (parts ≤ 64) × (length s ≡ 4 + 13 * parts) × (view_fits 8 64 (view_of x) ≡ true)
  writable parts c e =
      let k = put_clear.0 e in
      let z = sizes_known s k.0 in
      let most : n ≤ 64 = omega (arith, k.1, z.1) in
      (rw c k.1, rw c z.1, rw c z.4, view_more (channel_count s) 8 z.3 n 64 most (view_of x) k.2)

  -- a refusal leaves every byte
  refused : {r : Refusal} → Err r ≡ put_outcome s n x → (Err r ≡ put_outcome s n x) × (s ≡ put_bytes s n x)
  unfolding put_bytes after_put
  refused e = (e, rw (← e) refl)

  sizes_refused : sizes_of s ≡ None → Err RuleSizes ≡ put_outcome s n x
  unfolding put_outcome unless ◌or_else◌
  sizes_refused e = simp (wrong_sizes s e)

  pub put_sizes : sizes_of s ≡ None → (Err RuleSizes ≡ put_outcome s n x) × (s ≡ put_bytes s n x)
  put_sizes e = refused (sizes_refused e)

  module _ {p v : ℕ} (e : sizes_of s ≡ Some (sizes p v)) where
    absent_refused : p ≤ n → Err Absent ≡ put_outcome s n x
    unfolding put_outcome unless ◌or_else◌
    absent_refused h = let f = right_sizes s e in simp (f.0, ← f.1, le-ltb _ _ h)

    pub put_absent : p ≤ n → (Err Absent ≡ put_outcome s n x) × (s ≡ put_bytes s n x)
    put_absent h = refused (absent_refused h)

    misfit_refused : n < p → view_fits v n (view_of x) ≡ false → Err (N.Operand n) ≡ put_outcome s n x
    unfolding put_outcome unless ◌or_else◌
    misfit_refused h q = let f = right_sizes s e in simp (f.0, ← f.1, ← f.2, lt-ltb _ _ h, q)

    pub put_misfit : n < p → view_fits v n (view_of x) ≡ false → (Err (N.Operand n) ≡ put_outcome s n x) × (s ≡ put_bytes s n x)
    put_misfit h q = refused (misfit_refused h q)

    pub fit_clear : n < p → view_fits v n (view_of x) ≡ true → unrefused ≡ put_outcome s n x
    unfolding put_outcome unless ◌or_else◌
    fit_clear h q = let f = right_sizes s e in simp (f.0, ← f.1, ← f.2, lt-ltb _ _ h, q)

    pub put_done_lem : n < p → view_fits v n (view_of x) ≡ true → {t : List ℕ} → t ≡ written s n x → (unrefused ≡ put_outcome s n x) × (t ≡ put_bytes s n x)
    unfolding put_bytes after_put
    put_done_lem h q d = let c : unrefused ≡ put_outcome s n x = fit_clear h q in (c, d ∙ rw (← c) refl)

  -- the part's kind byte stored, and its operand written over the front of the part lent from there on
  pub part_written : (parts : ℕ) → parts ≡ part_count s → n < parts → length s ≡ 4 + 13 * parts → {k : ℕ} {o : View} → k ≡ kind_of x → o ≡ view_of x → (ys : List ℕ)
      → ys ≡ operand_bytes (operand_in o) ++ drop 12 (take (length (set s (4 + n) k) - (4 + parts + 12 * n)) (drop (4 + parts + 12 * n) (set s (4 + n) k)))
      → put_mid (4 + parts + 12 * n) (length (set s (4 + n) k) - (4 + parts + 12 * n)) (set s (4 + n) k) ys ≡ written s n x
  unfolding written kind_place operand_place
  part_written parts c h l {k} {o} g w ys z =
      let size : length (set s (4 + n) k) ≡ length s = length-set s (4 + n) k in
      lent_front (set s (4 + n) k) ys (operand_bytes (operand_in o)) (4 + parts + 12 * n) (length (set s (4 + n) k)) 12 (operand_length (operand_in o)) (omega arith) (omega arith) (omega arith) z
      ∙ rw (g, w, c) refl
