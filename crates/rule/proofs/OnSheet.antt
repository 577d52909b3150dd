-- What other crates know of a sheet: from the answer of the check, and from a part taken off a sheet that it cleared.
-- Assumes nothing.
use Rattle.rule.specs.inner.Sizes.{sizes}
use Rattle.std.specs.Prelude.{Result, Ok, Err}
use Prim.Native.Nat.{ℕ, ◌≤◌, ◌<◌}
use native.Mathlib.Omega.{arith}
use native.Mathlib.Decide.{dec_lt}
use mathlib.Core.Path.{◌≡◌, refl, sym, ap, ◌∙◌}
use mathlib.Core.List.{List}
use mathlib.Core.Logic.{by_cases}
use mathlib.Core.Bool.{true}
use borrow.Author.Tests.{le-leb}
use Rattle.cltlb.specs.declared.Part.{Part}
use Rattle.cltlb.specs.Views.{view_of}
use Rattle.cltlb.specs.Fits.{view_fits}
use Rattle.refusal.specs.declared.Refusal.{Refusal}
use Rattle.refusal.specs.declared.Refusal.TheVariants.{Absent}
use Rattle.refusal.specs.Outcome.{Outcome, unrefused}
use Rattle.rule.specs.declared.sizes.Sizes.{Sizes}
use Rattle.rule.specs.Layout.{part_count, channel_count}
use Rattle.rule.specs.Take.{take_of, part_taken, parts_of, views_of}
use Rattle.rule.specs.Sheet.{sheet_outcome}
use Rattle.rule.specs.inner.Read.{counts_unless, sheet_read}
use Rattle.rule.proofs.TakenIsLaid.{passed}
use Rattle.rule.proofs.TakenIsLaid as laid
use Rattle.rule.proofs.Cleared.{cleared_sizes, cleared_taken}

-- the outcome that an answer of the check stands for
module _ (s : List ℕ) where
  by_counts : (x : Outcome) {n v : ℕ} → counts_unless x s ≡ Ok (sizes n v) → (x ≡ unrefused) × (n ≡ part_count s) × (v ≡ channel_count s)
  unfolding counts_unless
  by_counts (Ok _) {n} {v} e =
      let w : sizes n v ≡ sizes (part_count s) (channel_count s) = cc in
      (refl, ap (λ (x : Sizes). x.parts) w, ap (λ (x : Sizes). x.channels) w)
  by_counts (Err r) e = absurd (let z : ◌≡◌ {A = ℕ} 0 1 = cc in omega arith)

  pub sheet_counts : {n v : ℕ} → sheet_read s ≡ Ok (sizes n v) → (sheet_outcome s ≡ unrefused) × (n ≡ part_count s) × (v ≡ channel_count s)
  unfolding sheet_read
  sheet_counts e = by_counts (sheet_outcome s) e

  by_refusal : (x : Outcome) {r : Refusal} → counts_unless x s ≡ Err r → x ≡ Err r
  unfolding counts_unless
  by_refusal (Ok _) e = absurd (let z : ◌≡◌ {A = ℕ} 0 1 = cc in omega arith)
  by_refusal (Err q) e = cc

  pub sheet_refused : {r : Refusal} → sheet_read s ≡ Err r → sheet_outcome s ≡ Err r
  unfolding sheet_read
  sheet_refused e = by_refusal (sheet_outcome s) e

-- a part taken off a cleared sheet, or refused there
module _ (rule : List ℕ) (clear : sheet_outcome rule ≡ unrefused) (i : ℕ) {t : Result Part Refusal} (e : t ≡ take_of rule i) where
  module _ {p : Part} (f : t ≡ Ok p) where
    pub taken_there : i < part_count rule
    taken_there = (passed rule i p (sym e ∙ f)).present

    pub taken_part_lem : parts_of rule i ≡ p
    unfolding parts_of part_taken
    taken_part_lem = ap part_taken (sym e ∙ f)

    pub taken_view : views_of rule i ≡ view_of p
    unfolding views_of
    taken_view = ap view_of taken_part_lem

    pub taken_fits : view_fits (channel_count rule) i (view_of p) ≡ true
    taken_fits = laid.taken_fits rule i p (sym e ∙ f)

  -- It is refused only where it is absent.
  module _ {q : Refusal} (f : t ≡ Err q) where
    pub untaken_absent : part_count rule ≤ i
    untaken_absent =
        by_cases (dec_lt i (part_count rule))
        (λ h. absurd (let k : take_of rule i ≡ Ok (parts_of rule i) = cleared_taken rule clear i h in let z : ◌≡◌ {A = ℕ} 0 1 = cc in omega arith))
        (λ h. omega arith)

    pub untaken_refusal : q ≡ Absent
    unfolding take_of
    untaken_refusal =
        let k : take_of rule i ≡ Err Absent = simp (cleared_sizes rule clear, le-leb (part_count rule) i untaken_absent) in
        let z : Err q ≡ Err Absent = sym f ∙ e ∙ k in
        cc
