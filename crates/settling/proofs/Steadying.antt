-- The passes that are passed over: what changes on a layout changes on those of fewer passes, and does not close there. Assumes
-- nothing.
use Rattle.std.specs.Prelude.{Result, Ok}
use Rattle.refusal.specs.declared.Refusal.{Refusal}
use Prim.Native.Nat.{ℕ, ◌+◌, ◌*◌, ◌-◌, ◌/◌, ◌≤◌, ◌<◌, min}
use native.Mathlib.Nat.{mul-le-mul_right, le-mul_of_pos_right, div-add-mod'}
use native.Mathlib.Omega.{arith}
use mathlib.Core.Path.{◌≡◌, refl, sym, ap, ◌∙◌, subst, subst⁻¹}
use mathlib.Core.Bool.{Bool, true, false, false≢true}
use mathlib.Core.List.{List}
use mathlib.Core.Option.{Option, none, some}
use mathlib.Core.Logic.Iff
use mathlib.Core.Logic.{◌↔◌}
use Rattle.fields.specs.inner.Ranges.{Bytes}
use Rattle.cltlb.specs.Views.{view_of}
use Rattle.cltlb.specs.Fits.{atom_fits, view_fits}
use Rattle.cltlb.specs.declared.Atom.{Atom}
use Rattle.cltlb.specs.declared.Part.{Part}
use Rattle.cltlb.specs.declared.View.{View}
use Rattle.cltlb.specs.declared.View.TheVariants as view
use Rattle.cltlb.proofs.Fits.{atom_fits_lem}
use Rattle.refusal.specs.Lowest.{lowest_from}
use Rattle.refusal.proofs.Lowest.{true_false, not_so, from_none}
use Rattle.rule.specs.Take.{take_of, views_of}
use Rattle.plan.specs.Layout.{cycle_rows}
use Rattle.plan.specs.declared.sizes.Sizes.{Sizes}
use Rattle.plan.specs.inner.Sizes.{Fitting}
use Rattle.verdict.specs.Meaning.{is_changes}
use Rattle.verdict.specs.Comparisons.{comparison_of}
use Rattle.verdict.specs.Rows.{judge_cycle}
use Rattle.verdict.specs.declared.Comparison.{Comparison}
use Rattle.verdict.specs.declared.Verdict.{Verdict}
use Rattle.verdict.specs.declared.Verdict.TheVariants.{AlwaysTrue, AlwaysFalse, Changes}
use Rattle.verdict.specs.inner.Reach.{TermsFit}
use Rattle.verdict.proofs.Passes.{PassMeans, means_iff}
use Rattle.verdict.proofs.Cycles.{ComparedAt, cycle_means, inside_4}
use Rattle.verdict.proofs.Values.{atom_fit}
use Rattle.marks.specs.Parts.{closing_outcome}
use Rattle.marks.proofs.PartsChecked.{own_cycle}
use Rattle.labelling.specs.Labels.{made_mark}
use Rattle.inputs.specs.inner.Read.{Ready}
use Rattle.inputs.proofs.Parts.{taken_same, taken_fitting}
use Rattle.laid_out.specs.LaidOut.{laid_out, can_be_laid}
use Rattle.settling.specs.Settle.{is_clear, settles_after}
use Rattle.words.specs.inner.Words.{most_rows}
use Rattle.settling.specs.inner.Scratch.{changing_from, is_none, closes_on, Unsteady, NoneSettles}
use Rattle.settling.proofs.Searched.{part_open, not_laid}
use Rattle.settling.proofs.Trying.{steady_as}

-- ---- a comparison that changes has changed before

-- A statement that changes from a later pass on changes from an earlier one on.
changes_before : (v w : Verdict) (F : ℕ → Type 0) (n : ℕ) → PassMeans v F → PassMeans w (λ k. F (k + n)) → is_changes w ≡ true → is_changes v ≡ true
unfolding PassMeans
changes_before AlwaysTrue Changes F n m p e = absurd (p.1.1 (m (p.1.0 + n)))
changes_before AlwaysFalse Changes F n m p e = absurd (m (p.0.0 + n) p.0.1)
changes_before Changes Changes F n m p e = refl
changes_before v AlwaysTrue F n m p e = absurd (false≢true e)
changes_before v AlwaysFalse F n m p e = absurd (false≢true e)

pub none_is : (o : Option ℕ) → is_none o ≡ true → o ≡ none
none_is none e = refl
none_is (some k) e = absurd (false≢true e)

module _ (plan : List ℕ) {z : Sizes} (fit : Fitting plan z) (x : Comparison) (terms : TermsFit z x) where
  abbrev changes : ℕ → Bool
  changes t = is_changes (judge_cycle plan x 4 t)

  pub means : (t : ℕ) → z.start ≤ t → PassMeans (judge_cycle plan x 4 t) (λ k. ComparedAt plan x (t + k * cycle_rows plan))
  means t h = cycle_means plan x (own_cycle fit) t 4 (inside_4 plan x z.channels t terms.0 terms.1 (own_cycle fit) (omega (arith, fit.p_is)))

  earlier : (t n s : ℕ) → z.start ≤ t → s ≡ t + n * cycle_rows plan → changes s ≡ true → changes t ≡ true
  earlier t n s h e c =
      changes_before (judge_cycle plan x 4 t) (judge_cycle plan x 4 s) (λ k. ComparedAt plan x (t + k * cycle_rows plan)) n (means t h)
      (means_iff (judge_cycle plan x 4 s) (λ k. ComparedAt plan x (s + k * cycle_rows plan)) (λ k. ComparedAt plan x (t + (k + n) * cycle_rows plan))
      (λ k. let place : s + k * cycle_rows plan ≡ t + (k + n) * cycle_rows plan = omega arith in
      subst (λ (j : ℕ). ComparedAt plan x (s + k * cycle_rows plan) ↔ ComparedAt plan x j) place Iff.rfl)
      (means s (omega arith)))
      c

  -- What changes on the layout of n passes changes on that of m.
  unsteady_before : (m n : ℕ) → m ≤ n → is_none (changing_from plan x (z.start + n * z.cycle) z.cycle) ≡ false
      → is_none (changing_from plan x (z.start + m * z.cycle) z.cycle) ≡ false
  unfolding changing_from
  unsteady_before m n l e =
      not_so (is_none (lowest_from changes (z.start + m * z.cycle) z.cycle)) (λ s.
      true_false (ap is_none ((from_none changes (z.start + n * z.cycle) z.cycle).1 (λ t low high.
      let c = fit.c_is in
      let split : m + (n - m) ≡ n = omega arith in
      let far : (m + (n - m)) * z.cycle ≡ n * z.cycle = ap (λ (k : ℕ). k * z.cycle) split in
      let back : t ≡ t - (n - m) * z.cycle + (n - m) * cycle_rows plan = subst⁻¹ (λ (k : ℕ). t ≡ t - (n - m) * z.cycle + (n - m) * k) c (omega arith) in
      not_so (changes t) (λ d.
      true_false (earlier (t - (n - m) * z.cycle) (n - m) t (omega arith) back d)
      ((from_none changes (z.start + m * z.cycle) z.cycle).0 (none_is _ s) (t - (n - m) * z.cycle) (omega arith) (omega arith)))))) e)

-- ---- the search for the passes from which on it does not

module _ (plan : List ℕ) (z : Sizes) (x : Comparison) (passes : ℕ) where
  -- on the layouts of fewer than `low` passes it changes; those of fewer than `high` take few rows
  pub record Enclosing (low high step : ℕ) : Type 0 where
    pub from : passes ≤ low
    pub few : low ≤ most_rows
    pub room : z.start + high * z.cycle ≤ most_rows
    pub short : step ≤ 1024
    pub over : Unsteady plan z x passes low

  module _ (fit : Fitting plan z) where
    pub enclosing_first : passes ≤ most_rows → Enclosing passes ((most_rows - z.start) / z.cycle) 0
    enclosing_first few =
        let rows = fit.few_rows in
        record { from = omega arith; few = few; room = omega (arith, div-add-mod' (most_rows - z.start) z.cycle); short = omega arith; over = λ m h l. absurd (omega arith) }

    module _ {low high step : ℕ} (s : Enclosing low high step) (l : low < high) {ahead : ℕ} (is : ahead ≡ min step ((high - low) / 2)) where
      -- the number of passes looked at is between the two,
      pub between : low + ahead < high
      between = omega arith

      pub few_between : (low + ahead < most_rows) × ((low + ahead) * z.cycle ≤ most_rows) × (z.start + (low + ahead) * z.cycle + z.cycle ≤ most_rows)
      few_between =
          let room = s.room in
          let b = between in
          let next : low + ahead + 1 ≤ high = omega arith in
          let few : (low + ahead + 1) * z.cycle ≤ high * z.cycle = mul-le-mul_right z.cycle next in
          (omega (arith, le-mul_of_pos_right (low + ahead) fit.a_cycle, fit.a_cycle), omega arith, omega arith)

      -- and takes the place of the one,
      pub from_above : Enclosing low (low + ahead) step
      from_above = let b = few_between.2 in record { from = s.from; few = s.few; room = omega arith; short = s.short; over = s.over }

      -- or of the other.
      pub from_below : TermsFit z x → {b : Bool} → b ≡ is_none (changing_from plan x (z.start + (low + ahead) * z.cycle) z.cycle) → b ≡ false
          → Enclosing (low + ahead + 1) high (2 * ahead + 1)
      from_below terms e h =
          let from = s.from in
          let few = few_between.0 in
          record {
            from = omega arith;
            few = omega arith;
            room = s.room;
            short = let short = s.short in omega arith;
            over = λ m q r. unsteady_before plan fit x terms m (low + ahead) (omega arith) (sym e ∙ h);
          }

-- ---- the part of the rule that it is

module _ (rule plan : List ℕ) {n : ℕ} {z : Sizes} (ready : Ready rule plan n z) (bytes : Bytes plan) (i : ℕ) (l : i < n)
    {t : Result Part Refusal} (e : t ≡ take_of rule i) {part : Part} (f : t ≡ Ok part) {p : View} (g : p ≡ view_of part) {a : Atom} (h : p ≡ view.Atom a) where
  pub part_atom_fits : atom_fits z.channels a ≡ true
  part_atom_fits =
      atom_fits_lem z.channels i a (subst (λ (q : View). view_fits z.channels i q ≡ true) h (taken_fitting rule plan ready i l e f g))

  module _ {x : Comparison} (is : x ≡ comparison_of a) where
    pub part_terms : TermsFit z x
    part_terms = atom_fit z a part_atom_fits is

    -- Where it changes on a layout that can be written, it does not close there.
    open_on : (m : ℕ) → can_be_laid plan m ≡ true → is_none (changing_from plan x (z.start + m * z.cycle) z.cycle) ≡ false → closes_on rule (laid_out plan m) i ≡ false
    open_on m can c =
        ap (λ (q : View). is_clear (closing_outcome (laid_out plan m) (made_mark (views_of rule) (laid_out plan m)) q i)) (taken_same rule plan ready i l e f g ∙ h)
        ∙ sym (steady_as plan ready.fits m can bytes a part_atom_fits is i (made_mark (views_of rule) (laid_out plan m)))
        ∙ c

    pub passed_over : {from to : ℕ} → Unsteady plan z x from to → NoneSettles rule plan from to
    passed_over changing m low high = go (can_be_laid plan m) refl
      where
        go : (b : Bool) → can_be_laid plan m ≡ b → settles_after rule plan m ≡ false
        go true can = part_open rule plan m i (subst (λ (k : ℕ). i < k) ready.parts l) (open_on m can (changing m low high))
        go false can = not_laid rule plan m can

-- Nothing is passed over.
pub none_over : (rule plan : List ℕ) (k : ℕ) → (k < k + 1) × NoneSettles rule plan (k + 1) (k + 1)
none_over rule plan k = (omega arith, λ m low high. absurd (omega arith))
