-- Settling's answer and the bytes that it leaves, one law for each way out of the code. Assumes nothing.
use Rattle.std.specs.Prelude.{Result, Ok, Err}
use Prim.Native.Nat.{ℕ}
use mathlib.Core.Path.{◌≡◌, sym, ap, ◌∙◌, subst}
use mathlib.Core.Bool.{true}
use mathlib.Core.List.{List, ◌++◌}
use lib.ListN.{length, drop}
use borrow.Author.Tests.{eq-eqb, ne_eqb}
use Rattle.refusal.specs.Outcome.{unrefused}
use Rattle.refusal.specs.First.{◌or_else◌, unless}
use Rattle.refusal.specs.declared.Refusal.{Refusal}
use Rattle.refusal.specs.declared.Refusal.TheVariants.{BufferLength}
use Rattle.refusal.proofs.Lowest.{lowest_some}
use Rattle.plan.specs.declared.sizes.Sizes.{Sizes}
use Rattle.inputs.specs.Outcome.{inputs_outcome}
use Rattle.inputs.specs.inner.Read.{Ready}
use Rattle.inputs.proofs.Ways.{both_ready}
use Rattle.table.specs.Bytes.{zeroed}
use Rattle.laid_out.specs.LaidOut.{laid_out, can_be_laid}
use Rattle.maker.proofs.Turns.{zeroed_same}
use Rattle.settling.specs.Settle.{laid_out_length, scratch_length, settles_after, fewest_passes, laid_by, lent_outcome, answered, settle_of, laid_with, laid_after, scratch_with, scratch_after}
use Rattle.settling.proofs.Searched.{settles_as}
use Rattle.settling.proofs.Promised.{passes_by}

-- As many passes as the search answers can be laid out.
pub answer_fits : (rule plan : List ℕ) {answer : Result ℕ Refusal} → answer ≡ laid_by (fewest_passes rule plan) → {n : ℕ} → answer ≡ Ok n
    → can_be_laid plan n ≡ true
unfolding fewest_passes
answer_fits rule plan searched {n} e =
    let lowest_at = (lowest_some (settles_after rule plan) 256 n).0 (passes_by (fewest_passes rule plan) n (sym searched ∙ e)) in
    ((settles_as rule plan n).0 lowest_at.1).0

module _ (rule plan laid scratch : List ℕ) where
  -- what is answered, and what the two buffers hold
  abbrev pub Left : Result ℕ Refusal → List ℕ → List ℕ → Type 0
  Left answer laid' scratch' =
      (answer ≡ settle_of rule plan laid scratch) × (laid' ≡ laid_after rule plan laid scratch) × (scratch' ≡ scratch_after rule plan laid scratch)

  -- Refused before a buffer is looked at.
  pub inputs_refused : {r : Refusal} → inputs_outcome rule plan ≡ Err r → Left (Err r) laid scratch
  unfolding settle_of lent_outcome answered laid_after laid_with scratch_after scratch_with ◌or_else◌
  inputs_refused e = (simp e, simp e, simp e)

  module _ {n : ℕ} {z : Sizes} (ready : Ready rule plan n z) where
    -- The plan buffer has another length,
    pub laid_short : (length laid ≡ laid_out_length → ⊥) → Left (Err BufferLength) laid scratch
    unfolding settle_of lent_outcome answered laid_after laid_with scratch_after scratch_with ◌or_else◌ unless
    laid_short differs =
        let wrong = ne_eqb (length laid) laid_out_length differs in
        let clear = both_ready rule plan ready in
        (simp (clear, wrong), simp (clear, wrong), simp (clear, wrong))

    module _ (plan_buffer : length laid ≡ laid_out_length) where
      -- or the scratch has.
      pub scratch_short : (length scratch ≡ scratch_length → ⊥) → Left (Err BufferLength) laid scratch
      unfolding settle_of lent_outcome answered laid_after laid_with scratch_after scratch_with ◌or_else◌ unless
      scratch_short differs =
          let right = eq-eqb (length laid) laid_out_length plan_buffer in
          let wrong = ne_eqb (length scratch) scratch_length differs in
          let clear = both_ready rule plan ready in
          (simp (clear, right, wrong), simp (clear, right, wrong), simp (clear, right, wrong))

      module _ (scratch_buffer : length scratch ≡ scratch_length) where
        lent : lent_outcome rule plan laid scratch ≡ unrefused
        unfolding lent_outcome ◌or_else◌ unless
        lent =
            simp (both_ready rule plan ready, eq-eqb (length laid) laid_out_length plan_buffer, eq-eqb (length scratch) scratch_length scratch_buffer)

        -- Both lengths are right: the answer is the search's,
        answer_is : laid_by (fewest_passes rule plan) ≡ settle_of rule plan laid scratch
        unfolding settle_of answered
        answer_is = sym (ap (answered rule plan laid scratch) lent)

        -- and the scratch, in which the search has written, is cleared.
        scratch_is : (mid : List ℕ) → length mid ≡ length scratch → zeroed mid ≡ scratch_after rule plan laid scratch
        unfolding scratch_after scratch_with
        scratch_is mid long = zeroed_same mid scratch long ∙ sym (ap (scratch_with rule plan laid scratch) lent)

        module _ {answer : Result ℕ Refusal} (searched : answer ≡ laid_by (fewest_passes rule plan)) (mid : List ℕ) (long : length mid ≡ length scratch)
            {scratch' : List ℕ} (zeros : scratch' ≡ zeroed mid) where
          -- No number is found: the plan buffer is left alone,
          pub none_found : {r : Refusal} → answer ≡ Err r → Left answer laid scratch'
          unfolding laid_after laid_with
          none_found e =
              (searched ∙ answer_is, sym (ap (laid_with rule plan laid scratch) (sym (searched ∙ answer_is) ∙ e)), zeros ∙ scratch_is mid long)

          -- or n passes are: the new plan is at its front.
          pub found : {n : ℕ} → answer ≡ Ok n → {laid' : List ℕ} → laid' ≡ laid_out plan n ++ drop (length (laid_out plan n)) laid
              → Left (Ok n) laid' scratch'
          unfolding laid_after laid_with
          found e put =
              (sym e ∙ searched ∙ answer_is, put ∙ sym (ap (laid_with rule plan laid scratch) (sym (searched ∙ answer_is) ∙ e)), zeros ∙ scratch_is mid long)

-- So it is where the rule and the plan read are those that were given.
pub left_given : {rule plan read_rule read_plan : List ℕ} (laid scratch : List ℕ) → read_rule ≡ rule → read_plan ≡ plan → {answer : Result ℕ Refusal} {laid' scratch' : List ℕ}
    → Left read_rule read_plan laid scratch answer laid' scratch' → Left rule plan laid scratch answer laid' scratch'
left_given {rule} {read_plan = read_plan} laid scratch e f {answer} {laid'} {scratch'} left =
    subst (λ (p : List ℕ). Left rule p laid scratch answer laid' scratch') f
    (subst (λ (r : List ℕ). Left r read_plan laid scratch answer laid' scratch') e left)
