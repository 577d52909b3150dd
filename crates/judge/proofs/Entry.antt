-- Judge by the tests that it makes, one law for each way out. Assumes nothing.
use Rattle.std.specs.Prelude.{Result, Ok, Err}
use Prim.Native.Nat.{ℕ, ◌≤◌, ◌<◌}
use mathlib.Core.Path.{◌≡◌, sym, ap, ◌∙◌, subst}
use mathlib.Core.List.{List}
use mathlib.Core.Bool.{true, false}
use lib.Dec.{ltb}
use borrow.Author.Tests.{lt-ltb, le-ltb}
use Rattle.cltlb.specs.Views.{view_of}
use Rattle.cltlb.specs.Fits.{atom_fits, view_fits}
use Rattle.cltlb.specs.declared.Atom.{Atom}
use Rattle.cltlb.specs.declared.Part.{Part}
use Rattle.cltlb.specs.declared.Operator.{Operator}
use Rattle.cltlb.specs.declared.View.{View}
use Rattle.cltlb.specs.declared.View.TheVariants as view
use Rattle.cltlb.proofs.Fits.{atom_fits_lem}
use Rattle.refusal.specs.declared.Refusal.{Refusal}
use Rattle.refusal.specs.declared.Refusal.TheVariants.{Absent}
use Rattle.refusal.specs.First.{◌or_else◌, unless}
use Rattle.rule.specs.Layout.{part_count, channel_count}
use Rattle.rule.specs.Take.{take_of, views_of}
use Rattle.rule.proofs.OnSheet as on_sheet
use Rattle.plan.specs.declared.sizes.Sizes.{Sizes}
use Rattle.plan.specs.inner.Sizes.{all_rows}
use Rattle.plan.proofs.Fits.{rows_are}
use Rattle.inputs.specs.Outcome.{inputs_outcome}
use Rattle.inputs.specs.inner.Read.{Ready}
use Rattle.inputs.proofs.Ways.{both_ready}
use Rattle.verdict.specs.declared.Verdict.{Verdict}
use Rattle.verdict.specs.Rows.{verdict_of}
use Rattle.judge.specs.Judge.{verdict_on, judge_outcome, judged_as, judge_of}
use Rattle.judge.proofs.Promised.{judgeable}

module _ (rule plan : List ℕ) (part row : ℕ) where
  pub inputs_refused : {r : Refusal} → inputs_outcome rule plan ≡ Err r → Err r ≡ judge_of rule plan part row
  unfolding judge_of judged_as judge_outcome ◌or_else◌
  inputs_refused e = simp e

  module _ {n : ℕ} {z : Sizes} (ready : Ready rule plan n z) where
    not_judgeable : judgeable rule plan part row ≡ false → Err Absent ≡ judge_of rule plan part row
    unfolding judge_of judged_as judge_outcome ◌or_else◌ unless
    not_judgeable f = simp (both_ready rule plan ready, f)

    is_judged : judgeable rule plan part row ≡ true → Ok (verdict_on plan (views_of rule part) row) ≡ judge_of rule plan part row
    unfolding judge_of judged_as judge_outcome ◌or_else◌ unless
    is_judged f = simp (both_ready rule plan ready, f)

    module _ {t : Result Part Refusal} (e : t ≡ take_of rule part) where
      -- 12: the part is absent,
      pub part_absent : {q : Refusal} → t ≡ Err q → Err q ≡ judge_of rule plan part row
      part_absent f =
          ap Err (on_sheet.untaken_refusal rule ready.sheet part e f)
          ∙ not_judgeable (simp (le-ltb _ _ (on_sheet.untaken_absent rule ready.sheet part e f)))

      module _ {p : Part} (f : t ≡ Ok p) where
        there : ltb part (part_count rule) ≡ true
        there = lt-ltb _ _ (on_sheet.taken_there rule ready.sheet part e f)

        -- or the row,
        pub row_absent : all_rows z ≤ row → Err Absent ≡ judge_of rule plan part row
        row_absent l = not_judgeable (simp (there, rows_are ready.fits, le-ltb _ _ l))

        module _ (l : row < all_rows z) {q : View} (g : q ≡ view_of p) where
          same : views_of rule part ≡ q
          same = on_sheet.taken_view rule ready.sheet part e f ∙ sym g

          -- or it is no atom.
          pub no_atom : {o : Operator} → q ≡ view.Operator o → Err Absent ≡ judge_of rule plan part row
          no_atom h = not_judgeable (simp (there, rows_are ready.fits, lt-ltb _ _ l, same ∙ h))

          module _ {x : Atom} (h : q ≡ view.Atom x) where
            pub atom_there : atom_fits z.channels x ≡ true
            atom_there =
                atom_fits_lem z.channels part x
                (subst (λ (v : ℕ). view_fits v part (view.Atom x) ≡ true) (sym ready.channels)
                (subst (λ (u : View). view_fits (channel_count rule) part u ≡ true) (sym g ∙ h) (on_sheet.taken_fits rule ready.sheet part e f)))

            pub judged_atom : {v : Verdict} → v ≡ verdict_of plan x row → Ok v ≡ judge_of rule plan part row
            unfolding verdict_on
            judged_atom d =
                ap Ok (d ∙ sym (ap (λ (u : View). verdict_on plan u row) (same ∙ h)))
                ∙ is_judged (simp (there, rows_are ready.fits, lt-ltb _ _ l, same ∙ h))
