-- The search for the fewest passes, turn after turn: a part closes, or more passes are laid out, on which the lower parts close too.
-- Assumes nothing.
use Rattle.std.specs.Prelude.{Result, Ok, Err}
use Rattle.refusal.specs.declared.Refusal.{Refusal}
use Prim.Native.Nat.{ℕ, zero, suc, ◌+◌, ◌*◌, ◌-◌, ◌≤◌, ◌<◌}
use native.Mathlib.Nat.{add-zero, mul-le-mul_right}
use native.Mathlib.Decide.{dec_lt}
use native.Mathlib.Omega.{arith}
use mathlib.Core.Path.{◌≡◌, sym, ap, ◌∙◌, subst, subst⁻¹}
use mathlib.Core.Bool.{Bool, true, false, not}
use mathlib.Core.List.{List}
use mathlib.Core.Logic.{by_cases}
use lib.IntN.{ℤ}
use borrow.Author.Tests.{not-true, not-false}
use Rattle.fields.specs.inner.Ranges.{Bytes}
use Rattle.cltlb.specs.Views.{view_of}
use Rattle.cltlb.specs.declared.Part.{Part}
use Rattle.cltlb.specs.declared.View.{View}
use Rattle.refusal.specs.declared.Refusal.TheVariants.{NoLayout}
use Rattle.rule.specs.Layout.{channel_count}
use Rattle.rule.specs.Take.{take_of, views_of}
use Rattle.plan.specs.Layout.{channels, start_rows, cycle_rows, rows}
use Rattle.plan.specs.Run.{run_of}
use Rattle.plan.specs.declared.sizes.Sizes.{Sizes}
use Rattle.plan.specs.inner.Sizes.{Fitting}
use Rattle.plan.proofs.Fits.{rows_are}
use Rattle.inputs.specs.inner.Read.{Ready}
use Rattle.inputs.proofs.Parts.{few_there, all_fit, taken_same}
use Rattle.marks.proofs.PartsChecked.{own_cycle}
use Rattle.labelling.specs.Labels.{made_mark}
use Rattle.labelling.proofs.Made.{Closed}
use Rattle.laid_out.specs.LaidOut.{laid_out, can_be_laid}
use Rattle.laid_out.specs.inner.LaidSizes.{laid_sizes}
use Rattle.laid_out.proofs.CanBeLaid.{first_fits, passes_few, fewer_fit}
use Rattle.laid_out.proofs.LaidRuns.{laid_few, laid_cycle, laid_rows, laid_fitting, laid_run}
use Rattle.words.specs.inner.Words.{most_parts, most_rows, mark_at, Room}
use Rattle.words.specs.inner.Written.{RowsRepeated}
use Rattle.words.proofs.Marking.{repeated_kept, repeated_again}
use Rattle.settling.specs.Settle.{settles_after, fewest_passes, laid_by}
use Rattle.settling.specs.inner.Scratch.{PartTried, MadeTo, closes_on, NoneSettles}
use Rattle.settling.proofs.Later.{later_closed, later_kept, later_again}
use Rattle.settling.proofs.Searched.{closed_as, none_yet, none_next, part_open, all_closed, search_found, search_ended}
use Rattle.settling.proofs.Making.{tried_closes, tried_lower, tried_made}

-- a test that does not fail
pub passed : {c d : Bool} → c ≡ d → not c ≡ false → d ≡ true
passed {c} e h = sym e ∙ not-false c h

-- At `passes` and part i: so many passes can be laid out, no fewer settle, and the parts below i close there and are made.
pub record Searching (rule plan : List ℕ) (n : ℕ) (scratch : List ℕ) (passes i : ℕ) : Type 0 where
  pub few : i ≤ n
  pub can : can_be_laid plan passes ≡ true
  pub none_fewer : (m : ℕ) → m < passes → settles_after rule plan m ≡ false
  pub closed : (a : ℕ) → a < i → closes_on rule (laid_out plan passes) a ≡ true
  pub made : MadeTo rule (laid_out plan passes) scratch i

module _ (rule plan : List ℕ) {n : ℕ} {z : Sizes} (ready : Ready rule plan n z) where
  -- ---- the layout of so many passes

  module _ (k : ℕ) (can : can_be_laid plan k ≡ true) where
    a_cycle : 1 ≤ cycle_rows (laid_out plan k)
    a_cycle = subst⁻¹ (λ (c : ℕ). 1 ≤ c) (laid_cycle plan ready.fits k can) (own_cycle ready.fits)

    pub few_passes : k < 256
    few_passes = passes_few plan k (own_cycle ready.fits) can

    -- One part tried on it, as the code takes it.
    module _ (i : ℕ) (l : i < n) {t : Result Part Refusal} (e : t ≡ take_of rule i) {part : Part} (f : t ≡ Ok part) {p : View} (g : p ≡ view_of part)
        {old new : List ℕ} (made : MadeTo rule (laid_out plan k) old i) {b : Bool} (tried : PartTried (laid_out plan k) old new i p b) where
      pub part_tried : (b ≡ closes_on rule (laid_out plan k) i) × MadeTo rule (laid_out plan k) new i × (b ≡ true → MadeTo rule (laid_out plan k) new (i + 1))
      part_tried =
          let is = taken_same rule plan ready i l e f g in (
            tried_closes rule (laid_out plan k) a_cycle (channel_count rule) n (all_fit rule plan ready) i l is made tried,
            tried_lower rule (laid_out plan k) a_cycle (channel_count rule) n (all_fit rule plan ready) i l is made tried,
            tried_made rule (laid_out plan k) a_cycle (channel_count rule) n (all_fit rule plan ready) i l is made tried,
          )

  -- There is room for every part.
  pub few_parts : {i : ℕ} → i ≤ n → i ≤ most_parts
  few_parts l = let few = (few_there rule plan ready).0 in omega arith

  -- There is room for the rows of more passes, from those of k on.
  pub more_room : {k more : ℕ} → k < more → can_be_laid plan more ≡ true → {y : Sizes} → y ≡ laid_sizes z k
      → (1 ≤ y.cycle) × (y.start + y.cycle + (more - k) * y.cycle ≤ most_rows)
  more_room {k} {more} l can e =
      subst⁻¹ (λ (q : Sizes). (1 ≤ q.cycle) × (q.start + q.cycle + (more - k) * q.cycle ≤ most_rows)) e (
        ready.fits.a_cycle,
        (let few = (laid_few plan ready.fits more can).1 in
            let split : k + (more - k) ≡ more = omega arith in
            let whole : (k + (more - k)) * z.cycle ≡ more * z.cycle = ap (λ (m : ℕ). m * z.cycle) split in
            omega arith),
      )

  -- ---- before the first turn

  pub searching_first : Bytes plan → {scratch : List ℕ} → Room scratch → Searching rule plan n scratch 0 0
  searching_first bytes room = record {
    few = omega arith;
    can = first_fits plan bytes ready.fits;
    none_fewer = none_yet rule plan;
    closed = λ a l. absurd (omega arith);
    made = record { room = room; marks = λ a l. absurd (omega arith) };
  }

  -- ---- one pass more

  -- so many passes: the parts below i close there, and are made
  abbrev Lower : List ℕ → ℕ → ℕ → Type 0
  Lower scratch i k = ((a : ℕ) → a < i → closes_on rule (laid_out plan k) a ≡ true) × MadeTo rule (laid_out plan k) scratch i

  module _ (bytes : Bytes plan) {new : List ℕ} {i : ℕ} (few : i ≤ n) where
    -- They close and are made where one pass more is laid out, their marks being repeated.
    module _ (k : ℕ) (can : can_be_laid plan k ≡ true) (more : can_be_laid plan (k + 1) ≡ true) (lower : Lower new i k)
        (again : (a : ℕ) → a < i → (row : ℕ) → z.start + k * z.cycle + z.cycle ≤ row → row < z.start + k * z.cycle + z.cycle + z.cycle → mark_at new a row ≡ mark_at new a (row - z.cycle)) where
      this : Fitting (laid_out plan k) (laid_sizes z k)
      this = laid_fitting plan ready.fits k can bytes

      next : Fitting (laid_out plan (k + 1)) (laid_sizes z (k + 1))
      next = laid_fitting plan ready.fits (k + 1) more bytes

      this_cycle : 1 ≤ cycle_rows (laid_out plan k)
      this_cycle = own_cycle this

      next_cycle : 1 ≤ cycle_rows (laid_out plan (k + 1))
      next_cycle = own_cycle next

      same_cycle : cycle_rows (laid_out plan (k + 1)) ≡ cycle_rows (laid_out plan k)
      same_cycle = next.c_is ∙ sym this.c_is

      pass_later : start_rows (laid_out plan (k + 1)) ≡ start_rows (laid_out plan k) + cycle_rows (laid_out plan k)
      pass_later = let a = next.p_is in let b = this.p_is in let c = this.c_is in omega arith

      same_run_lem : (c : ℕ) → c < channel_count rule → (t : ℤ) → run_of (laid_out plan (k + 1)) c t ≡ run_of (laid_out plan k) c t
      same_run_lem c q t =
          let within : c < channels plan = let a = ready.channels in let b = ready.fits.v_is in omega arith in
          laid_run plan ready.fits (k + 1) more bytes c within t ∙ sym (laid_run plan ready.fits k can bytes c within t)

      closed_this : (a : ℕ) → a < i → Closed (laid_out plan k) this_cycle (views_of rule) (channel_count rule) n (all_fit rule plan ready) a
      closed_this a q = (closed_as rule (laid_out plan k) this_cycle (channel_count rule) n (all_fit rule plan ready) a).0 (lower.0 a q)

      closed_next : (a : ℕ) → a < i → closes_on rule (laid_out plan (k + 1)) a ≡ true
      closed_next a q =
          (closed_as rule (laid_out plan (k + 1)) next_cycle (channel_count rule) n (all_fit rule plan ready) a).1
          (later_closed (laid_out plan k) (laid_out plan (k + 1)) this_cycle same_cycle pass_later (views_of rule) (channel_count rule) n (all_fit rule plan ready) same_run_lem i few closed_this a q)

      marks : (a : ℕ) → a < i → (row : ℕ) → row < rows (laid_out plan (k + 1)) → made_mark (views_of rule) (laid_out plan (k + 1)) a row ≡ mark_at new a row
      marks a q row r =
          let these = rows_are this in
          let those = rows_are next in
          by_cases (dec_lt row (rows (laid_out plan k)))
          (λ t. later_kept (laid_out plan k) (laid_out plan (k + 1)) this_cycle same_cycle pass_later (views_of rule) (channel_count rule) n (all_fit rule plan ready) same_run_lem i few closed_this a row q t
          ∙ lower.1.marks a q row t)
          (λ t. let c = this.c_is in
          let back : row - cycle_rows (laid_out plan k) ≡ row - z.cycle = ap (λ (m : ℕ). row - m) c in
          later_again (laid_out plan k) (laid_out plan (k + 1)) this_cycle same_cycle pass_later (views_of rule) (channel_count rule) n (all_fit rule plan ready) same_run_lem i few closed_this a row q (omega arith) r
          ∙ lower.1.marks a q (row - cycle_rows (laid_out plan k)) (omega arith)
          ∙ ap (mark_at new a) back
          ∙ sym (again a q row (omega arith) (omega arith)))

      lower_next : Lower new i (k + 1)
      lower_next = (closed_next, record { room = lower.1.room; marks = marks })

    -- So they do where j passes more are.
    module _ (k times : ℕ) (can : can_be_laid plan (k + times) ≡ true) (lower : Lower new i k)
        (again : (a : ℕ) → a < i → (row : ℕ) → z.start + k * z.cycle + z.cycle ≤ row → row < z.start + k * z.cycle + z.cycle + times * z.cycle → mark_at new a row ≡ mark_at new a (row - z.cycle)) where
      lower_later : (j : ℕ) → j ≤ times → Lower new i (k + j)
      lower_later zero l = subst⁻¹ (Lower new i) (add-zero k) lower
      lower_later (suc j) l =
          let next : k + j + 1 ≡ k + suc j = omega arith in
          subst (Lower new i) next
          (lower_next (k + j) (fewer_fit plan (k + j) (k + times) (omega arith) can) (fewer_fit plan (k + j + 1) (k + times) (omega arith) can) (lower_later j (omega arith))
          (λ a q row low high. again a q row (omega arith) (omega (arith, mul-le-mul_right z.cycle l))))

  -- ---- part i is tried

  module _ {old : List ℕ} {k i : ℕ} (s : Searching rule plan n old k i) {b : Bool} (is : b ≡ closes_on rule (laid_out plan k) i) where
    -- It closes,

    pub part_closes : i < n → b ≡ true → {new : List ℕ} → MadeTo rule (laid_out plan k) new (i + 1) → Searching rule plan n new k (i + 1)
    part_closes l h {new} made = record {
      few = omega arith;
      can = s.can;
      none_fewer = s.none_fewer;
      closed = λ a q. by_cases (dec_lt a i) (s.closed a)
          (λ t. let same : i ≡ a = omega arith in subst (λ (c : ℕ). closes_on rule (laid_out plan k) c ≡ true) same (sym is ∙ h));
      made = made;
    }

    -- or it does not: so many passes do not settle, nor do those that are passed over;
    module _ (l : i < n) (h : b ≡ false) {more : ℕ} (later : k < more) (over : NoneSettles rule plan (k + 1) more) where
      no_fewer : (m : ℕ) → m < more → settles_after rule plan m ≡ false
      no_fewer m q =
          by_cases (dec_lt m (k + 1))
          (none_next rule plan k s.none_fewer (part_open rule plan k i (subst (λ (m : ℕ). i < m) ready.parts l) (sym is ∙ h)) m)
          (λ t. over m (omega arith) q)

      -- the next can't be laid out,
      pub no_more : {c : Bool} → c ≡ can_be_laid plan more → not c ≡ true → Err NoLayout ≡ laid_by (fewest_passes rule plan)
      no_more {c} e t = sym (ap laid_by (search_ended rule plan more no_fewer (sym e ∙ not-true c t)))

      -- or they can, and the lower parts, which repeat, are made on their layout.
      module _ (bytes : Bytes plan) (can : can_be_laid plan more ≡ true) {mid new : List ℕ} (lower : MadeTo rule (laid_out plan k) mid i)
          {y : Sizes} (sizes : y ≡ laid_sizes z k) (repeated : RowsRepeated mid new y.cycle (y.start + y.cycle) (y.start + y.cycle + (more - k) * y.cycle)) where
        longer : RowsRepeated mid new z.cycle (z.start + k * z.cycle + z.cycle) (z.start + k * z.cycle + z.cycle + (more - k) * z.cycle)
        longer = subst (λ (q : Sizes). RowsRepeated mid new q.cycle (q.start + q.cycle) (q.start + q.cycle + (more - k) * q.cycle)) sizes repeated

        passes : k + (more - k) ≡ more
        passes = omega arith

        lower_first : Lower new i k
        lower_first =
            let these = laid_rows plan ready.fits k s.can in
            (s.closed, record { room = longer.long ∙ lower.room; marks = λ a q row r. lower.marks a q row r ∙ sym (repeated_kept longer a row (omega arith)) })

        lower_last : Lower new i more
        lower_last =
            subst (Lower new i) passes
            (lower_later bytes s.few k (more - k) (subst⁻¹ (λ (m : ℕ). can_be_laid plan m ≡ true) passes can) lower_first (λ a q. repeated_again longer a) (more - k) (omega arith))

        pub more_laid : Searching rule plan n new more i
        more_laid = record {
          few = s.few;
          can = can;
          none_fewer = no_fewer;
          closed = lower_last.0;
          made = lower_last.1;
        }

  -- ---- after the last turn

  pub all_close : {scratch : List ℕ} {k i : ℕ} → Searching rule plan n scratch k i → n ≤ i → Ok k ≡ laid_by (fewest_passes rule plan)
  all_close {k = k} s h =
      let few = s.few in
      let parts = ready.parts in
      sym (ap laid_by (search_found rule plan k s.none_fewer (own_cycle ready.fits) (all_closed rule plan k s.can (λ a q. s.closed a (omega arith)))))
