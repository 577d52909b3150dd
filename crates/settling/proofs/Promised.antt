-- Settling's promise, from its definitions: the fewest passes are found where any number works, the plan laid out has the same run and
-- settles, and where nothing drifts the passes are bounded. Assumes nothing.
use Rattle.std.specs.Prelude.{Result, Ok, Err}
use Prim.Native.Nat.{ℕ, ◌+◌, ◌*◌, ◌≤◌, ◌<◌}
use native.Mathlib.Decide.{dec_lt}
use native.Mathlib.Omega.{arith}
use mathlib.Core.Path.{◌≡◌, refl, sym, ◌∙◌, subst, subst⁻¹}
use mathlib.Core.Bool.{Bool, true, false}
use mathlib.Core.List.{List}
use mathlib.Core.Option.{Option, none, some}
use mathlib.Core.Logic.{◌↔◌, ◌⊎◌, inl, inr, ⊎_elim, by_cases}
use lib.Dec.{eqb}
use lib.ListN.{length}
use borrow.Author.Tests.{eq-eqb}
use Rattle.fields.specs.inner.Ranges.{Bytes}
use Rattle.cltlb.specs.Fits.{view_fits}
use Rattle.cltlb.specs.Nesting.{deepest}
use Rattle.refusal.specs.Outcome.{Outcome, unrefused}
use Rattle.refusal.specs.declared.Refusal.{Refusal}
use Rattle.refusal.specs.declared.Refusal.TheVariants.{BufferLength, NoLayout}
use Rattle.refusal.specs.First.{unless}
use Rattle.refusal.proofs.First.{or_else_clear, unless_clear}
use Rattle.refusal.proofs.Lowest.{true_false, not_so, lowest_none, lowest_some}
use Rattle.refusal.proofs.RefusesOnly.{Small, Within, RefusesOnly, refused_only, or_else_only, unless_only, within_small, within_wider}
use Rattle.rule.specs.Layout.{part_count, channel_count}
use Rattle.rule.specs.Take.{views_of}
use Rattle.plan.specs.Layout.{channels, rows}
use Rattle.plan.specs.Refusals.{plan_outcome}
use Rattle.plan.specs.inner.Sizes.{sizes_in, Fitting}
use Rattle.plan.proofs.Outcomes.{cleared}
use Rattle.inputs.specs.Outcome.{inputs_outcome}
use Rattle.inputs.proofs.Ways.{clear_both, both_clear, inputs_within}
use Rattle.laid_out.specs.LaidOut.{rows_after, laid_out, can_be_laid}
use Rattle.laid_out.proofs.CanBeLaid.{passes_few, fewer_fit, still_fits}
use Rattle.laid_out.proofs.LaidRuns.{laid_fitting, laid_lead, laid_top, laid_reading_at, laid_lead_reading, laid_run}
use Rattle.laid_out.proofs.LaidPlans.{laid_clear, laid_none}
use Rattle.maker.specs.Make.{closings_outcome, make_of}
use Rattle.maker.proofs.Promised.{some_cycle, fits}
use Rattle.settling.specs.Settle.{laid_out_length, scratch_length, settles_after, fewest_passes, laid_by, lent_outcome, answered, settle_of, laid_after, scratch_after}
use Rattle.settling.specs.Promise.{SettledAfter, FewestSettle, NoDrift, most_passes, Lent, SettlePromise}
use Rattle.settling.proofs.Bound.{still_settled}
use Rattle.settling.proofs.Closings.{closings_settled, settled_makes}
use Rattle.settling.proofs.Searched.{settles_as}

-- ---- a rule and a plan that clear 1 to 6

module _ (rule plan : List ℕ) (bytes : Bytes plan) (clear : inputs_outcome rule plan ≡ unrefused) where
  plan_clear : plan_outcome (channel_count rule) plan ≡ unrefused
  plan_clear = (clear_both rule plan clear).1

  sizes_fit_lem : Fitting plan (sizes_in plan)
  sizes_fit_lem = (cleared (channel_count rule) plan plan_clear).0

  -- Every part fits, by the channels of the plan.
  parts_fit : (i : ℕ) → i < part_count rule → view_fits (channels plan) i (views_of rule i) ≡ true
  parts_fit i l =
      subst⁻¹ (λ (v : ℕ). view_fits v i (views_of rule i) ≡ true) (cleared (channel_count rule) plan plan_clear).1 (fits rule plan clear i l)

  -- ---- n passes that can be laid out

  module _ (n : ℕ) (can : can_be_laid plan n ≡ true) where
    laid_inputs : inputs_outcome rule (laid_out plan n) ≡ unrefused
    laid_inputs = both_clear rule (laid_out plan n) (clear_both rule plan clear).0 (laid_clear plan bytes (channel_count rule) plan_clear n can)

    -- Every part closes exactly where every part is settled.
    closes_settled : (closings_outcome rule (laid_out plan n) ≡ unrefused) ↔ SettledAfter rule plan n
    unfolding SettledAfter
    closes_settled = closings_settled rule (laid_out plan n) laid_inputs

    settles : SettledAfter rule plan n → settles_after rule plan n ≡ true
    settles s = (settles_as rule plan n).1 (can, closes_settled.1 s)

  -- ---- found

  module _ (n : ℕ) (found : fewest_passes rule plan ≡ some n) where
    lowest_at : (n < 256) × (settles_after rule plan n ≡ true) × ((m : ℕ) → m < n → settles_after rule plan m ≡ false)
    unfolding fewest_passes
    lowest_at = (lowest_some (settles_after rule plan) 256 n).0 found

    can_be_laid_lem : can_be_laid plan n ≡ true
    can_be_laid_lem = ((settles_as rule plan n).0 lowest_at.1).0

    closes : closings_outcome rule (laid_out plan n) ≡ unrefused
    closes = ((settles_as rule plan n).0 lowest_at.1).1

    -- They are the fewest that settle.
    found_fewest : FewestSettle rule plan n
    found_fewest = record {
      enough = (closes_settled n can_be_laid_lem).0 closes;
      none_fewer = λ m l s. true_false (settles m (fewer_fit plan m n (omega arith) can_be_laid_lem) s) (lowest_at.2 m l);
    }

    -- The maker makes marks.
    found_makes : (table : List ℕ) → length table ≡ 4 + part_count rule * rows (laid_out plan n) + 2 * part_count rule
        → (v : Bool) × (make_of rule (laid_out plan n) table ≡ Ok v)
    found_makes = settled_makes rule (laid_out plan n) (laid_inputs n can_be_laid_lem) closes

  -- ---- not found

  -- No number is found exactly where none that can be laid out settles: 256 passes are more than 256 rows.
  none_found : (fewest_passes rule plan ≡ none) ↔ ((n : ℕ) → can_be_laid plan n ≡ true → ¬ SettledAfter rule plan n)
  unfolding fewest_passes
  none_found = (
    λ e n can s. true_false (settles n can s) ((lowest_none (settles_after rule plan) 256).0 e n (passes_few plan n (some_cycle rule plan clear) can)),
    λ h. (lowest_none (settles_after rule plan) 256).1 (λ n l.
        not_so (settles_after rule plan n) (λ s. let p = (settles_as rule plan n).0 s in h n p.0 ((closes_settled n p.0).0 p.1))),
  )

  -- ---- where nothing drifts

  module _ (still : NoDrift plan) where
    -- As many passes as the bound says settle, if they can be laid out.
    most_settle : can_be_laid plan (most_passes rule) ≡ true → SettledAfter rule plan (most_passes rule)
    unfolding NoDrift SettledAfter most_passes
    most_settle can =
        let own = laid_fitting plan sizes_fit_lem (4 + deepest (views_of rule) (part_count rule)) can bytes in
        still_settled plan (some_cycle rule plan clear) still (views_of rule) (part_count rule) parts_fit
        (laid_out plan (4 + deepest (views_of rule) (part_count rule))) own.c_is own.p_is
        (λ c l t. laid_run plan sizes_fit_lem (4 + deepest (views_of rule) (part_count rule)) can bytes c l t)

    found_bound : (n : ℕ) → fewest_passes rule plan ≡ some n → n ≤ most_passes rule
    found_bound n found =
        by_cases (dec_lt (most_passes rule) n)
        (λ l. absurd ((found_fewest n found).none_fewer (most_passes rule) l
        (most_settle (fewer_fit plan (most_passes rule) n (omega arith) (can_be_laid_lem n found)))))
        (λ l. omega arith)

    none_long : fewest_passes rule plan ≡ none → 256 < rows_after plan (most_passes rule)
    unfolding NoDrift
    none_long e =
        by_cases (dec_lt 256 (rows_after plan (most_passes rule))) (λ l. l)
        (λ l. let can = still_fits plan bytes sizes_fit_lem still (most_passes rule) (omega arith) in
        absurd (none_found.0 e (most_passes rule) can (most_settle can)))

-- ---- the answers, by their outcomes

pub passes_by : (o : Option ℕ) (n : ℕ) → laid_by o ≡ Ok n → o ≡ some n
passes_by none n e = absurd (let z : ◌≡◌ {A = ℕ} 0 1 = cc in omega arith)
passes_by (some m) n e = cc

refused_by : (o : Option ℕ) (r : Refusal) → laid_by o ≡ Err r → (o ≡ none) × (NoLayout ≡ r)
refused_by none r e = (refl, cc)
refused_by (some m) r e = absurd (let z : ◌≡◌ {A = ℕ} 0 1 = cc in omega arith)

module _ (rule plan laid scratch : List ℕ) where
  passes_as : (o : Outcome) (n : ℕ) → answered rule plan laid scratch o ≡ Ok n → (o ≡ unrefused) × (fewest_passes rule plan ≡ some n)
  unfolding answered
  passes_as (Ok _) n e = (refl, passes_by (fewest_passes rule plan) n e)
  passes_as (Err q) n e = absurd (let z : ◌≡◌ {A = ℕ} 0 1 = cc in omega arith)

  refused_as : (o : Outcome) (r : Refusal) → answered rule plan laid scratch o ≡ Err r
      → (o ≡ Err r) ⊎ ((o ≡ unrefused) × (fewest_passes rule plan ≡ none) × (NoLayout ≡ r))
  unfolding answered
  refused_as (Ok _) r e = let p = refused_by (fewest_passes rule plan) r e in inr (refl, p.0, p.1)
  refused_as (Err q) r e = inl cc

  -- ---- the numbers of the refusals, and what two bytes hold

  lent_within : RefusesOnly (Within 1 13) (lent_outcome rule plan laid scratch)
  unfolding lent_outcome
  lent_within =
      or_else_only (Within 1 13) (inputs_outcome rule plan) _
      (within_wider 1 6 1 13 (omega arith) (omega arith) (inputs_outcome rule plan) (inputs_within rule plan))
      (λ _. or_else_only (Within 1 13) (unless (eqb (length laid) laid_out_length) BufferLength) _
      (unless_only (Within 1 13) _ BufferLength (omega arith)) (λ _. unless_only (Within 1 13) _ BufferLength (omega arith)))

  inputs_clear : lent_outcome rule plan laid scratch ≡ unrefused → inputs_outcome rule plan ≡ unrefused
  unfolding lent_outcome
  inputs_clear e = ((or_else_clear (inputs_outcome rule plan) _).0 e).0

  -- What an answer says of the search,
  passes_found : {answer : Result ℕ Refusal} → answer ≡ settle_of rule plan laid scratch → (n : ℕ) → answer ≡ Ok n
      → (inputs_outcome rule plan ≡ unrefused) × (fewest_passes rule plan ≡ some n)
  unfolding settle_of
  passes_found e n q = let p = passes_as (lent_outcome rule plan laid scratch) n (sym e ∙ q) in (inputs_clear p.0, p.1)

  -- and 15: the buffers are cleared, and nothing is found.
  none_answered : {answer : Result ℕ Refusal} → answer ≡ settle_of rule plan laid scratch → answer ≡ Err NoLayout
      → (inputs_outcome rule plan ≡ unrefused) × (fewest_passes rule plan ≡ none)
  unfolding settle_of
  none_answered e q =
      ⊎_elim
      (λ h. absurd (let l = (refused_only (Within 1 13) (lent_outcome rule plan laid scratch) lent_within NoLayout h).1 in omega arith))
      (λ p. (inputs_clear p.0, p.1))
      (refused_as (lent_outcome rule plan laid scratch) NoLayout (sym e ∙ q))

  -- Two bytes hold the part and the row that a refusal names,
  pub settle_names : {answer : Result ℕ Refusal} → answer ≡ settle_of rule plan laid scratch → (r : Refusal) → answer ≡ Err r → Small r
  unfolding settle_of
  settle_names e r q =
      ⊎_elim
      (λ h. refused_only Small (lent_outcome rule plan laid scratch) (within_small 1 13 (lent_outcome rule plan laid scratch) lent_within) r h)
      (λ p. subst Small p.2 (omega arith))
      (refused_as (lent_outcome rule plan laid scratch) r (sym e ∙ q))

  -- and one holds the passes.
  pub settle_few : {answer : Result ℕ Refusal} → answer ≡ settle_of rule plan laid scratch → (n : ℕ) → answer ≡ Ok n → n < 256
  unfolding fewest_passes
  settle_few e n q = ((lowest_some (settles_after rule plan) 256 n).0 (passes_found e n q).1).0

  -- ---- the whole promise

  lent_clear : Lent rule plan laid scratch → lent_outcome rule plan laid scratch ≡ unrefused
  unfolding lent_outcome
  lent_clear h =
      (or_else_clear (inputs_outcome rule plan) _).1 (
        both_clear rule plan h.sheet h.plan_clear,
        (or_else_clear (unless (eqb (length laid) laid_out_length) BufferLength) _).1 (
          (unless_clear _ BufferLength).1 (eq-eqb (length laid) laid_out_length h.plan_buffer),
          (unless_clear _ BufferLength).1 (eq-eqb (length scratch) scratch_length h.scratch_buffer),
        ),
      )

  -- nothing found: 15 is the answer
  none_answers : lent_outcome rule plan laid scratch ≡ unrefused → fewest_passes rule plan ≡ none → settle_of rule plan laid scratch ≡ Err NoLayout
  unfolding settle_of answered
  none_answers d e = simp (d, e)

  -- SETTLING KEEPS ITS PROMISE, whatever the bytes.
  pub settle_promise : Bytes plan → {laid' scratch' : List ℕ} {answer : Result ℕ Refusal} → answer ≡ settle_of rule plan laid scratch
      → laid' ≡ laid_after rule plan laid scratch → scratch' ≡ scratch_after rule plan laid scratch
      → SettlePromise rule plan laid scratch laid' scratch' answer
  settle_promise bytes {laid'} {scratch'} {answer} e f g = record {
    is_settle = e;
    plan_bytes = f;
    scratch_bytes = g;
    clears = λ n q. let p = passes_found e n q in
        laid_clear plan bytes (channel_count rule) (plan_clear rule plan bytes p.0) n (can_be_laid_lem rule plan bytes p.0 n p.1);
    laid_passes = λ n q. let p = passes_found e n q in
        let own = laid_fitting plan (sizes_fit_lem rule plan bytes p.0) n (can_be_laid_lem rule plan bytes p.0 n p.1) bytes in
        (own.v_is, own.c_is, own.p_is);
    same_reading = λ n q c l t. let p = passes_found e n q in
        laid_reading_at plan (sizes_fit_lem rule plan bytes p.0) n (can_be_laid_lem rule plan bytes p.0 n p.1) bytes c l t;
    same_lead = λ n q. let p = passes_found e n q in (
      laid_lead plan (sizes_fit_lem rule plan bytes p.0) n (can_be_laid_lem rule plan bytes p.0 n p.1) bytes,
      λ k c h l. laid_lead_reading plan (sizes_fit_lem rule plan bytes p.0) n (can_be_laid_lem rule plan bytes p.0 n p.1) bytes c l k h,
    );
    same_tops = λ n q. let p = passes_found e n q in
        laid_top plan (sizes_fit_lem rule plan bytes p.0) n (can_be_laid_lem rule plan bytes p.0 n p.1) bytes;
    same_run = λ n q c l t. let p = passes_found e n q in
        laid_run plan (sizes_fit_lem rule plan bytes p.0) n (can_be_laid_lem rule plan bytes p.0 n p.1) bytes c l t;
    fewest = λ n q. let p = passes_found e n q in found_fewest rule plan bytes p.0 n p.1;
    makes = λ n q. let p = passes_found e n q in found_makes rule plan bytes p.0 n p.1;
    copied = λ q. let p = passes_found e 0 q in laid_none plan bytes (channel_count rule) (plan_clear rule plan bytes p.0);
    refuses = λ h. (
      λ q. let p = none_answered e q in (none_found rule plan bytes p.0).0 p.1,
      λ none_settles. let c = lent_clear h in e ∙ none_answers c ((none_found rule plan bytes (inputs_clear c)).1 none_settles),
    );
    bound = λ still n q. let p = passes_found e n q in found_bound rule plan bytes p.0 still n p.1;
    too_long = λ still q. let p = none_answered e q in none_long rule plan bytes p.0 still p.1;
  }
