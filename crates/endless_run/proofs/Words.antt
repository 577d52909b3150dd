-- The meaning of an answer, carried through the packing. Assumes nothing.
use Rattle.std.specs.Prelude.{Result, Ok, Err}
use Prim.Native.Nat.{ℕ, ◌≤◌, ◌<◌}
use native.Mathlib.Omega.{arith}
use mathlib.Core.Path.{◌≡◌, refl, sym, ap, ◌∙◌, subst, subst⁻¹}
use mathlib.Core.List.{List}
use mathlib.Core.Bool.{Bool, true, false}
use mathlib.Core.Logic.{◌↔◌, ◌⊎◌, inl, inr, ⊎_elim}
use lib.Dec.{T}
use Rattle.std.specs.Int.{from_bool}
use Rattle.refusal.specs.declared.Refusal.{Refusal}
use Rattle.refusal.specs.declared.Refusal.TheVariants.{RuleSizes, Kind, Operand, PlanSizes, Channels, StartDrift, MarkSizes, MarkByte, Equation, Closing, Witness, Absent, BufferLength, NoTable, NoLayout, Unwatchable, Unfitting}
use Rattle.refusal.specs.declared.Report.{Report}
use Rattle.refusal.specs.Report.{report, report_of}
use Rattle.refusal.proofs.RefusesOnly.{Small}
use Rattle.refusal.proofs.Reported.{one_report}
use Rattle.verdict.specs.declared.Verdict.{Verdict}
use Rattle.judge.specs.Judge.{JudgePromise}
use Rattle.judge.proofs.Promised.{judge_names}
use Rattle.acceptance.specs.Check.{check_of}
use Rattle.acceptance.specs.Promise.{CheckPromise}
use Rattle.acceptance.proofs.CheckNames.{check_names}
use Rattle.maker.specs.Promise.{MakePromise}
use Rattle.maker.proofs.Promised.{make_names}
use Rattle.endless_run.specs.Packing.{refusal_word, unpacked, verdict_bit, check_word, make_word, verdict_word, judge_word}
use Rattle.endless_run.specs.Promise.{CheckWordPromise, MakeWordPromise, JudgeWordPromise}

-- numbers are 1 to 17, so that a refusal is no small number
pub number_within : (r : Refusal) → (1 ≤ (report_of r).number) × ((report_of r).number ≤ 17)
number_within RuleSizes = omega arith
number_within (Kind p) = omega arith
number_within (Operand p) = omega arith
number_within PlanSizes = omega arith
number_within Channels = omega arith
number_within (StartDrift r) = omega arith
number_within MarkSizes = omega arith
number_within (MarkByte p r) = omega arith
number_within (Equation p r) = omega arith
number_within (Closing p r) = omega arith
number_within (Witness p) = omega arith
number_within Absent = omega arith
number_within BufferLength = omega arith
number_within (NoTable p r) = omega arith
number_within NoLayout = omega arith
number_within Unwatchable = omega arith
number_within Unfitting = omega arith

-- of those that are not of a live call 1 to 15
pub number_on_plans : (r : Refusal) → (r ≡ Unwatchable → ⊥) → (r ≡ Unfitting → ⊥) → (1 ≤ (report_of r).number) × ((report_of r).number ≤ 15)
number_on_plans RuleSizes w f = omega arith
number_on_plans (Kind p) w f = omega arith
number_on_plans (Operand p) w f = omega arith
number_on_plans PlanSizes w f = omega arith
number_on_plans Channels w f = omega arith
number_on_plans (StartDrift r) w f = omega arith
number_on_plans MarkSizes w f = omega arith
number_on_plans (MarkByte p r) w f = omega arith
number_on_plans (Equation p r) w f = omega arith
number_on_plans (Closing p r) w f = omega arith
number_on_plans (Witness p) w f = omega arith
number_on_plans Absent w f = omega arith
number_on_plans BufferLength w f = omega arith
number_on_plans (NoTable p r) w f = omega arith
number_on_plans NoLayout w f = omega arith
number_on_plans Unwatchable w f = absurd (w refl)
number_on_plans Unfitting w f = absurd (f refl)

-- 0 is no number of a refusal
pub no_number : {p w : ℕ} (q : Refusal) → report 0 p w ≡ report_of q → ⊥
no_number q e = let n : 0 ≡ (report_of q).number = ap (λ (x : Report). x.number) e in omega (arith, number_within q)

pub refusal_large : (r : Refusal) → 4294967296 ≤ refusal_word r
unfolding refusal_word
refusal_large r = omega (arith, number_within r)

-- A refusal's word, taken apart, is its report.
pub unpacks : (r : Refusal) → Small r → unpacked (refusal_word r) ≡ report_of r
unfolding unpacked refusal_word
unpacks r h = same (omega (arith, h)) (omega (arith, h)) (omega (arith, h))
  where
    same : {n p q : ℕ} → n ≡ (report_of r).number → p ≡ (report_of r).part → q ≡ (report_of r).row → report n p q ≡ report_of r
    same d e f = rw (d, e, f) refl

bit_small : (v : Bool) → verdict_bit v < 2
bit_small true = omega arith
bit_small false = omega arith

bit_one : (v : Bool) → (verdict_bit v ≡ 1) ↔ T v
bit_one true = (λ _. tt, λ _. refl)
bit_one false = (λ e. absurd (omega arith), λ t. absurd t)

-- ---- an answer that is a verdict or a refusal, and its word

module _ {A : Type 0} (word : A → ℕ) (verdict : Bool → A) (refused : Refusal → A) where
  -- there is no third case, and the word is as packed
  pub record Packed : Type 0 where
    pub cases : (a : A) → ((v : Bool) × (a ≡ verdict v)) ⊎ ((r : Refusal) × (a ≡ refused r))
    pub verdict_word_lem : (v : Bool) → word (verdict v) ≡ verdict_bit v
    pub refused_word : (r : Refusal) → word (refused r) ≡ refusal_word r

  module _ (packed : Packed) where
    word_of : (a : A) (v : Bool) → a ≡ verdict v → word a ≡ verdict_bit v
    word_of a v e = ap word e ∙ packed.verdict_word_lem v

    refusal_of : (a : A) (r : Refusal) → a ≡ refused r → word a ≡ refusal_word r
    refusal_of a r e = ap word e ∙ packed.refused_word r

    -- a small word is a verdict's,
    small_answer : (a : A) → word a < 2 → (v : Bool) × (a ≡ verdict v)
    small_answer a h =
        ⊎_elim (λ p. p) (λ p. let large = refusal_of a p.0 p.1 in absurd (omega (arith, refusal_large p.0))) (packed.cases a)

    pub answer_small : (a : A) (v : Bool) → a ≡ verdict v → word a < 2
    answer_small a v e = subst⁻¹ (λ (n : ℕ). n < 2) (word_of a v e) (bit_small v)

    -- and 1 is that of a true one.
    answer_one : {X : Type 0} {n : ℕ} (a : A) → n ≡ word a → (v : Bool) → a ≡ verdict v → T v ↔ X → (n ≡ 1) ↔ X
    answer_one a d v e t =
        let w = d ∙ word_of a v e in
        (λ o. t.0 ((bit_one v).0 (sym w ∙ o)), λ x. w ∙ (bit_one v).1 (t.1 x))

    -- The word of a refusal, taken apart, is its report,
    reported : (a : A) (r : Refusal) → a ≡ refused r → Small r → unpacked (word a) ≡ report_of r
    reported a r e small = ap unpacked (refusal_of a r e) ∙ unpacks r small

    -- and a word that names a refusal is the word of that refusal.
    named : (a : A) → ((r : Refusal) → a ≡ refused r → Small r) → (q : Refusal) → unpacked (word a) ≡ report_of q → a ≡ refused q
    unfolding unpacked
    named a small q e = ⊎_elim (λ p. absurd (verdict_named p.0 (sym (ap unpacked (word_of a p.0 p.1)) ∙ e)))
        (λ p. p.1 ∙ ap refused (one_report p.0 q (sym (reported a p.0 p.1 (small p.0 p.1)) ∙ e))) (packed.cases a)
      where
        verdict_named : (v : Bool) → unpacked (verdict_bit v) ≡ report_of q → ⊥
        verdict_named true e = no_number q e
        verdict_named false e = no_number q e

-- the number that std makes of a bool
pub bit_from : (b : Bool) → from_bool b ≡ verdict_bit b
bit_from true = refl
bit_from false = refl

pub check_packed : Packed check_word Ok Err
unfolding check_word
check_packed = record { cases = either; verdict_word_lem = λ v. refl; refused_word = λ r. refl }
  where
    either : (a : Result Bool Refusal) → ((v : Bool) × (a ≡ Ok v)) ⊎ ((r : Refusal) × (a ≡ Err r))
    either (Ok v) = inl (v, refl)
    either (Err r) = inr (r, refl)

module _ (rule plan table : List ℕ) where
  pub check_word_lem : {a : Result Bool Refusal} {word : ℕ} → word ≡ check_word a → CheckPromise rule plan table a → CheckWordPromise rule plan table word
  check_word_lem {a} {word} e p = record {
    is_check = e ∙ ap check_word p.is_check;
    accepts = λ c. (
      λ h. (p.accepts c).0 (verdict_of_lem h),
      λ r. let q = (p.accepts c).1 r in subst (λ (n : ℕ). n < 2) (sym e) (answer_small check_word Ok Err check_packed a q.0 q.1),
    );
    holds = λ h. let q = verdict_of_lem h in answer_one check_word Ok Err check_packed a e q.0 q.1 (p.verdict q.0 q.1);
    reports = λ r q.
        let c : a ≡ Err r = p.is_check ∙ q in
        ap unpacked e ∙ reported check_word Ok Err check_packed a r c (small r c);
    equation = λ i row h. p.equation i row (names (Equation i row) h);
    closing = λ i row h. p.closing i row (names (Closing i row) h);
    witness = λ i h. p.witness i (names (Witness i) h);
  }
    where
      small : (r : Refusal) → a ≡ Err r → Small r
      small = check_names rule plan table p.is_check

      verdict_of_lem : word < 2 → (v : Bool) × (a ≡ Ok v)
      verdict_of_lem h = small_answer check_word Ok Err check_packed a (subst (λ (n : ℕ). n < 2) e h)

      names : (q : Refusal) → unpacked word ≡ report_of q → a ≡ Err q
      names q h = named check_word Ok Err check_packed a small q (sym (ap unpacked e) ∙ h)

module _ (rule plan before after : List ℕ) where
  pub make_word_lem : {a : Result Bool Refusal} {word : ℕ} → word ≡ make_word a → MakePromise rule plan before after a → MakeWordPromise rule plan before after word
  make_word_lem {a} {word} e p = record {
    is_make = e ∙ ap make_word p.is_make;
    bytes = p.bytes;
    accepted = λ h.
        let q = verdict_of_lem h in
        word_of check_word Ok Err check_packed (check_of rule plan after) q.0 (p.accepted q.0 q.1)
        ∙ sym (e ∙ word_of make_word Ok Err check_packed a q.0 q.1);
    right = λ h. let q = verdict_of_lem h in p.right q.0 q.1;
    holds = λ h. let q = verdict_of_lem h in answer_one make_word Ok Err check_packed a e q.0 q.1 (p.verdict q.0 q.1);
    lowest = λ h. let q = verdict_of_lem h in p.lowest q.0 q.1;
    refuses = λ c. (
      λ h. (p.refuses c).0 (h.0, h.1, names (NoTable h.0 h.1) h.2),
      λ none. let h = (p.refuses c).1 none in (h.0, h.1, tells (NoTable h.0 h.1) h.2),
    );
    reports = λ r q. tells r (p.is_make ∙ q);
    opened = λ i row h. p.opened i row (names (NoTable i row) h);
  }
    where
      small : (r : Refusal) → a ≡ Err r → Small r
      small = make_names rule plan before p.is_make

      verdict_of_lem : word < 2 → (v : Bool) × (a ≡ Ok v)
      verdict_of_lem h = small_answer make_word Ok Err check_packed a (subst (λ (n : ℕ). n < 2) e h)

      names : (q : Refusal) → unpacked word ≡ report_of q → a ≡ Err q
      names q h = named make_word Ok Err check_packed a small q (sym (ap unpacked e) ∙ h)

      tells : (r : Refusal) → a ≡ Err r → unpacked word ≡ report_of r
      tells r c = ap unpacked e ∙ reported make_word Ok Err check_packed a r c (small r c)

module _ (rule plan : List ℕ) (part row : ℕ) where
  small_judge : (a : Result Verdict Refusal) → judge_word a < 3 → (v : Verdict) × (a ≡ Ok v)
  unfolding judge_word
  small_judge (Ok v) h = (v, refl)
  small_judge (Err r) h = absurd (omega (arith, refusal_large r))

  judged_word : (a : Result Verdict Refusal) (v : Verdict) → a ≡ Ok v → judge_word a ≡ verdict_word v
  unfolding judge_word
  judged_word a v e = ap judge_word e

  refused_judge : (a : Result Verdict Refusal) (r : Refusal) → a ≡ Err r → judge_word a ≡ refusal_word r
  unfolding judge_word
  refused_judge a r e = ap judge_word e

  pub judge_word_lem : {a : Result Verdict Refusal} {word : ℕ} → word ≡ judge_word a → JudgePromise rule plan part row a → JudgeWordPromise rule plan part row word
  judge_word_lem {a} {word} e p = record {
    is_judge = e ∙ ap judge_word p.is_judge;
    meaning = λ h. let q = small_judge a (subst (λ (n : ℕ). n < 3) e h) in (q.0, e ∙ judged_word a q.0 q.1, p.meaning q.0 q.1);
    reports = λ r q.
        let c : a ≡ Err r = p.is_judge ∙ q in
        ap unpacked (e ∙ refused_judge a r c) ∙ unpacks r (judge_names rule plan part row p.is_judge r c);
  }
