-- The meaning of settling's answer, carried through the packing. Assumes nothing.
use Rattle.std.specs.Prelude.{Result, Ok, Err}
use Prim.Native.Nat.{ℕ, ◌/◌, ◌<◌}
use native.Mathlib.Omega.{arith}
use mathlib.Core.Path.{◌≡◌, refl, sym, ap, ◌∙◌, subst⁻¹}
use mathlib.Core.List.{List, ◌++◌}
use lib.ListN.{length, drop}
use Rattle.refusal.specs.declared.Refusal.{Refusal}
use Rattle.refusal.specs.declared.Refusal.TheVariants.{NoLayout}
use Rattle.refusal.specs.declared.Report.{Report}
use Rattle.refusal.specs.Report.{report_of}
use Rattle.refusal.proofs.RefusesOnly.{Small}
use Rattle.refusal.proofs.Reported.{one_report}
use Rattle.laid_out.specs.LaidOut.{laid_out}
use Rattle.maker.specs.Make.{make_of}
use Rattle.settling.specs.Settle.{settle_of, laid_with, laid_after}
use Rattle.settling.specs.Promise.{SettlePromise}
use Rattle.settling.proofs.Promised.{settle_names, settle_few}
use Rattle.endless_run.specs.Packing.{unpacked, make_word, settle_word}
use Rattle.endless_run.specs.Promise.{SettleWordPromise}
use Rattle.endless_run.proofs.Words.{number_within, refusal_large, unpacks, answer_small, check_packed}

-- A small word is the number of passes,
passes_of : (a : Result ℕ Refusal) → settle_word a < 256 → a ≡ Ok (settle_word a)
unfolding settle_word
passes_of (Ok n) h = refl
passes_of (Err r) h = absurd (omega (arith, refusal_large r))

-- the word of a refusal, taken apart, is its report,
reported : (a : Result ℕ Refusal) (r : Refusal) → a ≡ Err r → Small r → unpacked (settle_word a) ≡ report_of r
unfolding settle_word
reported a r e small = ap (λ (x : Result ℕ Refusal). unpacked (settle_word x)) e ∙ unpacks r small

-- and a word that names a refusal is the word of that refusal.
named : (a : Result ℕ Refusal) → ((n : ℕ) → a ≡ Ok n → n < 256) → ((r : Refusal) → a ≡ Err r → Small r)
    → (q : Refusal) → unpacked (settle_word a) ≡ report_of q → a ≡ Err q
unfolding settle_word unpacked
named (Ok n) few small q e =
    let number : n / 4294967296 ≡ (report_of q).number = ap (λ (x : Report). x.number) e in
    absurd (omega (arith, few n refl, number_within q))
named (Err r) few small q e = ap (λ (x : Refusal). Err x) (one_report r q (sym (unpacks r (small r refl)) ∙ e))

module _ (rule plan laid scratch laid' scratch' : List ℕ) where
  -- Where passes are laid out the new plan is at the front of the buffer.
  front_of : (n : ℕ) → settle_of rule plan laid scratch ≡ Ok n
      → laid_after rule plan laid scratch ≡ laid_out plan n ++ drop (length (laid_out plan n)) laid
  unfolding laid_after laid_with
  front_of n e = ap (laid_with rule plan laid scratch) e

  pub settle_word_lem : {a : Result ℕ Refusal} {word : ℕ} → word ≡ settle_word a → SettlePromise rule plan laid scratch laid' scratch' a
      → SettleWordPromise rule plan laid scratch laid' scratch' word
  settle_word_lem {a} {word} e p = record {
    is_settle = e ∙ ap settle_word p.is_settle;
    plan_bytes = p.plan_bytes;
    scratch_bytes = p.scratch_bytes;
    front = λ h. p.plan_bytes ∙ at_front h;
    clears = λ h. p.clears word (passes h);
    laid_passes = λ h. p.laid_passes word (passes h);
    same_reading = λ h. p.same_reading word (passes h);
    same_lead = λ h. p.same_lead word (passes h);
    same_tops = λ h. p.same_tops word (passes h);
    same_run = λ h. p.same_run word (passes h);
    fewest = λ h. p.fewest word (passes h);
    makes = λ h table long.
        let made = p.makes word (passes h) table long in
        answer_small make_word Ok Err check_packed (make_of rule (laid_out plan word) table) made.0 made.1;
    copied = λ z. p.copied (passes (omega arith) ∙ ap (λ (n : ℕ). Ok n) z);
    refuses = λ lent. (
      λ h. (p.refuses lent).0 (names NoLayout h),
      λ none. tells NoLayout ((p.refuses lent).1 none),
    );
    bound = λ still h. p.bound still word (passes h);
    too_long = λ still h. p.too_long still (names NoLayout h);
    reports = λ r q. tells r (p.is_settle ∙ q);
  }
    where
      passes : word < 256 → a ≡ Ok word
      passes h = subst⁻¹ (λ (n : ℕ). n < 256 → a ≡ Ok n) e (passes_of a) h

      at_front : word < 256 → laid_after rule plan laid scratch ≡ laid_out plan word ++ drop (length (laid_out plan word)) laid
      at_front h = front_of word (sym p.is_settle ∙ passes h)

      few : (n : ℕ) → a ≡ Ok n → n < 256
      few = settle_few rule plan laid scratch p.is_settle

      small : (r : Refusal) → a ≡ Err r → Small r
      small = settle_names rule plan laid scratch p.is_settle

      names : (q : Refusal) → unpacked word ≡ report_of q → a ≡ Err q
      names q h = named a few small q (sym (ap unpacked e) ∙ h)

      tells : (r : Refusal) → a ≡ Err r → unpacked word ≡ report_of r
      tells r c = ap unpacked e ∙ reported a r c (small r c)
