-- Take reads exactly the layout: a part is taken where its bytes lie. Assumes nothing.
use Rattle.std.specs.Prelude.{Result, Ok, Err, Option, Some, None}
use Prim.Native.Nat.{ℕ, ◌+◌, ◌≤◌, ◌<◌}
use native.Mathlib.Omega.{arith}
use mathlib.Core.Path.{◌≡◌, refl, sym, ap, ◌∙◌, subst}
use mathlib.Core.List.{List, ◌++◌}
use mathlib.Core.Bool.{Bool, true, false, not, cond}
use mathlib.Core.Logic.{◌↔◌}
use lib.Dec.{leb}
use lib.ListN.{length, take, drop, take-append-drop}
use lib.Seq.{length-take-le}
use borrow.Author.Tests.{lt-leb, leb-false, not-false}
use Rattle.refusal.specs.declared.Refusal.{Refusal}
use Rattle.refusal.specs.declared.Refusal.TheVariants.{RuleSizes, Kind, Absent}
use Rattle.refusal.specs.declared.Refusal.TheVariants as N
use Rattle.fields.specs.inner.Ranges.{Bytes}
use Rattle.cltlb.specs.declared.Part.{Part}
use Rattle.rule.specs.declared.operands.Operand.{Operand}
use Rattle.rule.specs.Layout.{part_count, channel_count, kind_byte, operand_place, sizes_fit}
use Rattle.cltlb.specs.Views.{view_of}
use Rattle.cltlb.specs.Fits.{view_fits}
use Rattle.rule.specs.Operands.{operand_bytes, operand_at}
use Rattle.rule.specs.Kinds.{kind_of, operand_of, shape_of, is_unknown, kind_unknown, part_of}
use Rattle.rule.specs.Take.{taken_operand, take_of}
use Rattle.rule.specs.inner.Words.{WordOperand}
use Rattle.rule.proofs.Laid.{shape_in, Words, Laid}
use Rattle.rule.proofs.KindTables.{kind_shape, part_back, kind_known, kind_back, operand_back}
use Rattle.rule.proofs.SizesKnown.{sizes_known, operand_inside}
use Rattle.rule.proofs.OperandsLaid.{operand_read, operand_laid}

-- a part that is taken is not refused
past : (p : Part) (b : Bool) (r : Refusal) (t : Result Part Refusal) → cond b (Err r) t ≡ Ok p → (b ≡ false) × (t ≡ Ok p)
past p true r t e = absurd (let z : ◌≡◌ {A = ℕ} 0 1 = cc in omega arith)
past p false r t e = (refl, e)

-- the operand of a part that is taken
pub record OperandTaken (v n k : ℕ) (x : Option Operand) (p : Part) : Type 0 where
  pub operand : Operand
  pub found : x ≡ Some operand
  pub fits : view_fits v n (view_of p) ≡ true
  pub made : part_of k operand ≡ p

operand_taken : (v n k : ℕ) (x : Option Operand) (p : Part) → taken_operand v n k x ≡ Ok p → OperandTaken v n k x p
unfolding taken_operand
operand_taken v n k None p e = absurd (let z : ◌≡◌ {A = ℕ} 0 1 = cc in omega arith)
operand_taken v n k (Some o) p e = by_fit (view_fits v n (view_of (part_of k o))) refl e
  where
    by_fit : (b : Bool) → view_fits v n (view_of (part_of k o)) ≡ b → cond b (Ok (part_of k o)) (Err (N.Operand n)) ≡ Ok p → OperandTaken v n k (Some o) p
    by_fit true f g =
        let made : part_of k o ≡ p = cc in
        record { operand = o; found = refl; fits = ap (λ (q : Part). view_fits v n (view_of q)) (sym made) ∙ f; made = made }
    by_fit false f g = absurd (let z : ◌≡◌ {A = ℕ} 0 1 = cc in omega arith)

-- a part that is taken, by the tests that it passed
pub record Passed (s : List ℕ) (n : ℕ) (p : Part) : Type 0 where
  pub sizes : sizes_fit s ≡ true
  pub present : n < part_count s
  pub known : kind_unknown s n ≡ false
  pub from : OperandTaken (channel_count s) n (kind_byte s n) (operand_at (shape_of (kind_byte s n)) s (operand_place (part_count s) n)) p

module _ (s : List ℕ) (n : ℕ) (p : Part) where
  pub passed : take_of s n ≡ Ok p → Passed s n p
  unfolding take_of
  passed e =
      let last : Result Part Refusal =
      taken_operand (channel_count s) n (kind_byte s n) (operand_at (shape_of (kind_byte s n)) s (operand_place (part_count s) n)) in
      let third : Result Part Refusal = cond (kind_unknown s n) (Err (Kind n)) last in
      let second : Result Part Refusal = cond (leb (part_count s) n) (Err Absent) third in
      let a = past p (not (sizes_fit s)) RuleSizes second e in
      let b = past p (leb (part_count s) n) Absent third a.1 in
      let c = past p (kind_unknown s n) (Kind n) last b.1 in
      record {
        sizes = not-false (sizes_fit s) a.0;
        present = leb-false (part_count s) n b.0;
        known = c.0;
        from = operand_taken _ n _ _ p c.1;
      }

  -- A part that is taken fits its sheet.
  pub taken_fits : take_of s n ≡ Ok p → view_fits (channel_count s) n (view_of p) ≡ true
  taken_fits e = (passed e).from.fits

  -- A part that is taken lies on the sheet, and its constants are numbers of four bytes.
  pub taken_laid : Bytes s → take_of s n ≡ Ok p → Laid s n p × Words p
  unfolding kind_unknown
  taken_laid b e =
      let q = passed e in
      let o = q.from in
      let read = operand_laid s (operand_place (part_count s) n) b (operand_inside s q.sizes n q.present) (shape_of (kind_byte s n)) o.operand o.found in
      let same : o.operand ≡ operand_of p = sym (operand_back (kind_byte s n) o.operand) ∙ ap operand_of o.made in (
        record {
          sizes = q.sizes;
          present = q.present;
          kind = sym (kind_back (kind_byte s n) o.operand q.known read.0) ∙ ap kind_of o.made;
          bytes = read.1 ∙ ap operand_bytes same;
          fits = taken_fits e;
        },
        subst WordOperand same read.2,
      )

  -- A part that lies on the sheet is taken.
  pub laid_taken : Laid s n p → Words p → take_of s n ≡ Ok p
  unfolding take_of taken_operand kind_unknown
  laid_taken d w =
      let size = sizes_known s d.sizes in
      let room : operand_place (part_count s) n + 12 ≤ length s = operand_inside s d.sizes n d.present in
      let here : n < part_count s = d.present in
      let parted : s ≡ take (operand_place (part_count s) n) s ++ (operand_bytes (operand_of p) ++ drop 12 (drop (operand_place (part_count s) n) s)) =
      sym (ap (λ (t : List ℕ). take (operand_place (part_count s) n) s ++ (t ++ drop 12 (drop (operand_place (part_count s) n) s))) (sym d.bytes)
      ∙ ap (λ (t : List ℕ). take (operand_place (part_count s) n) s ++ t) (take-append-drop 12 (drop (operand_place (part_count s) n) s))
      ∙ take-append-drop (operand_place (part_count s) n) s) in
      let shape : shape_of (kind_byte s n) ≡ shape_in (operand_of p) = ap shape_of d.kind ∙ kind_shape p in
      let known : is_unknown (shape_of (kind_byte s n)) ≡ false = ap (λ (k : ℕ). is_unknown (shape_of k)) d.kind ∙ kind_known p in
      let read : operand_at (shape_of (kind_byte s n)) s (operand_place (part_count s) n) ≡ Some (operand_of p) =
      ap (λ k. operand_at k s (operand_place (part_count s) n)) shape
      ∙ ap (λ (t : List ℕ). operand_at (shape_in (operand_of p)) t (operand_place (part_count s) n)) parted
      ∙ operand_read (take (operand_place (part_count s) n) s) (drop 12 (drop (operand_place (part_count s) n) s)) (operand_place (part_count s) n)
      (length-take-le (operand_place (part_count s) n) s (omega arith)) (channel_count s) n size.3 (omega (arith, size.1)) (view_of p) d.fits w in
      let made : part_of (kind_byte s n) (operand_of p) ≡ p = ap (λ (k : ℕ). part_of k (operand_of p)) d.kind ∙ part_back p in
      simp (d.sizes, lt-leb (part_count s) n d.present, known, read, made, d.fits)

  -- The layout is the bytes of a part, and take reads exactly it.
  pub taken_is_laid : Bytes s → (take_of s n ≡ Ok p) ↔ (Laid s n p × Words p)
  taken_is_laid b = (taken_laid b, λ d. laid_taken d.0 d.1)
