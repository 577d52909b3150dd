-- The meaning of the calls on a live state, carried through the packing. Assumes nothing.
use Rattle.std.specs.Prelude.{Result, Ok, Err}
use Prim.Native.Nat.{ℕ, ◌*◌, ◌-◌}
use native.Mathlib.Omega.{arith}
use mathlib.Core.Path.{◌≡◌, refl, sym, ap, ◌∙◌, subst}
use mathlib.Core.Bool.{Bool, true, false, not, ◌&&◌, cond}
use mathlib.Core.List.{List}
use lib.Dec.{ltb, leb, eqb}
use lib.ListN.{length, get_or}
use Rattle.refusal.specs.declared.Refusal.{Refusal}
use Rattle.refusal.specs.declared.Refusal.TheVariants.{PlanSizes, Unwatchable, Unfitting}
use Rattle.refusal.specs.Outcome.{Outcome}
use Rattle.refusal.specs.Report.{report_of}
use Rattle.refusal.specs.First.{◌or_else◌, unless}
use Rattle.refusal.proofs.RefusesOnly.{Small, Within, RefusesOnly, refused_only, or_else_only, unless_only, only_by}
use Rattle.rule.specs.Sheet.{sheet_outcome}
use Rattle.rule.proofs.SheetNames.{sheet_within}
use Rattle.plan.specs.Layout.{tops_fit}
use Rattle.live.specs.declared.Live.{Live}
use Rattle.live.specs.declared.Answer.{Answer}
use Rattle.live.specs.State.{is_held, watch_at, start_outcome, row_outcome, watchable, add_outcome, drop_outcome, watch_answer, answer_of, unless_refused, empty_live}
use Rattle.live.specs.Calls.{Call, add, remove, row, outcome_of}
use Rattle.live.specs.Promise.{StartPromise, CallPromise, AnswerPromise}
use Rattle.endless_run.specs.Packing.{refusal_word, unpacked, outcome_word, answer_word}
use Rattle.endless_run.specs.LivePromise.{StartWordPromise, CallWordPromise, AnswerWordPromise}
use Rattle.endless_run.specs.inner.Small.{SmallRefusal}
use Rattle.endless_run.proofs.Words.{refusal_large, unpacks}

-- ---- what a refusal names

sheet_small : (sheet : List ℕ) → RefusesOnly Small (sheet_outcome sheet)
sheet_small sheet = only_by Small (sheet_outcome sheet) (λ r e. let w = refused_only (Within 1 3) (sheet_outcome sheet) (sheet_within sheet) r e in (w.2, w.3))

start_small : (v : ℕ) (tops : List ℕ) → RefusesOnly Small (start_outcome v tops)
unfolding start_outcome
start_small v tops = unless_only Small (leb 1 v && (leb v 8 && (eqb (length tops) (4 * v) && tops_fit tops v))) PlanSizes (omega arith)

call_small : (call : Call) (s : Live) → RefusesOnly Small (outcome_of call s)
unfolding outcome_of add_outcome drop_outcome row_outcome
call_small (add p sheet) s =
    or_else_only Small (sheet_outcome sheet) (unless (watchable s.channels sheet) Unwatchable or_else unless (ltb p 4 && not (is_held (watch_at s p))) Unfitting)
    (sheet_small sheet)
    (λ _. or_else_only Small (unless (watchable s.channels sheet) Unwatchable) (unless (ltb p 4 && not (is_held (watch_at s p))) Unfitting)
    (unless_only Small (watchable s.channels sheet) Unwatchable (omega arith))
    (λ _. unless_only Small (ltb p 4 && not (is_held (watch_at s p))) Unfitting (omega arith)))
call_small (remove p) s = unless_only Small (ltb p 4 && not (not (is_held (watch_at s p)))) Unfitting (omega arith)
call_small (row bytes) s = unless_only Small (leb s.channels 8 && eqb (length bytes) (4 * s.channels)) Unfitting (omega arith)

pub start_packs : (v : ℕ) (tops : List ℕ) {o : Outcome} → o ≡ start_outcome v tops → SmallRefusal o
start_packs v tops e r f = refused_only Small (start_outcome v tops) (start_small v tops) r (sym e ∙ f)

pub call_packs : (call : Call) (s : Live) {o : Outcome} → o ≡ outcome_of call s → SmallRefusal o
call_packs call s e r f = refused_only Small (outcome_of call s) (call_small call s) r (sym e ∙ f)

-- ---- the words

-- 0 is no refusal's word.
zero_clear : (o : Outcome) (r : Refusal) → o ≡ Err r → outcome_word o ≡ 0 → ⊥
unfolding outcome_word
zero_clear o r e z = let k : refusal_word r ≡ 0 = sym (ap outcome_word e) ∙ z in absurd (omega (arith, refusal_large r))

stays : (o : Outcome) (new old : Live) → (outcome_word o ≡ 0 → ⊥) → unless_refused o new old ≡ old
unfolding outcome_word unless_refused
stays (Ok _) new old n = absurd (n refl)
stays (Err r) new old n = refl

told_apart : (o : Outcome) → RefusesOnly Small o → {word : ℕ} → word ≡ outcome_word o → (r : Refusal) → o ≡ Err r → unpacked word ≡ report_of r
unfolding outcome_word
told_apart o small e r f = ap unpacked (e ∙ ap outcome_word f) ∙ unpacks r (refused_only Small o small r f)

module _ (before : Live) (v : ℕ) (tops : List ℕ) where
  pub start_word : {after : Live} {o : Outcome} {word : ℕ} → word ≡ outcome_word o → StartPromise before v tops after o → StartWordPromise before v tops after word
  start_word {after} {o} {word} e p =
      let f = p.is_start in
      let w : word ≡ outcome_word (start_outcome v tops) = e ∙ ap outcome_word f in
      let s : after ≡ unless_refused (start_outcome v tops) (empty_live v tops) before = p.state ∙ ap (λ (x : Outcome). unless_refused x (empty_live v tops) before) f in
      record {
        is_start = w;
        state = s;
        unchanged = λ n. s ∙ stays (start_outcome v tops) (empty_live v tops) before (λ z. n (w ∙ z));
        reports = told_apart (start_outcome v tops) (start_small v tops) w;
      }

by_outcome : (o : Outcome) {P : Type 0} → ((r : Refusal) → o ≡ Err r → P) → (outcome_word o ≡ 0 → ⊥) → P
unfolding outcome_word
by_outcome (Ok _) f n = absurd (n refl)
by_outcome (Err r) f n = f r refl

pub call_word : (call : Call) (before : Live) {after : Live} {o : Outcome} {word : ℕ} → word ≡ outcome_word o → CallPromise call before after o → CallWordPromise call before after word
call_word call before {after} {o} {word} e p =
    let w : word ≡ outcome_word (outcome_of call before) = e ∙ ap outcome_word p.is_call in
    record {
      is_call = w;
      state = p.state;
      unchanged = λ n. by_outcome o p.unchanged (λ z. n (e ∙ z));
      refuses = λ v tops calls a b c d. e ∙ ap outcome_word (p.refuses v tops calls a b c d);
      reports = told_apart (outcome_of call before) (call_small call before) w;
    }

-- ---- answers

told_small : (low : Bool) (told : Answer) → SmallRefusal (cond low (Ok told) (Err Unfitting))
told_small true told r e = absurd (let y : ◌≡◌ {A = ℕ} 0 1 = cc in omega arith)
told_small false told r e = let q : Unfitting ≡ r = cc in subst Small q (omega arith)

pub answer_packs : (s : Live) (p : ℕ) {a : Result Answer Refusal} → a ≡ answer_of s p → SmallRefusal a
unfolding answer_of
answer_packs s p e r f = told_small (ltb p 4) (watch_answer (watch_at s p)) r (sym e ∙ f)

pub answer_word_lem : (s : Live) (p : ℕ) {a : Result Answer Refusal} {word : ℕ} → word ≡ answer_word a → AnswerPromise s p a → AnswerWordPromise s p word
unfolding answer_word
answer_word_lem s p {a} {word} e q = record {
  is_answer = e ∙ ap answer_word q.is_answer;
  meaning = λ v tops calls b c d f h. (a, e, q.meaning v tops calls b c d f h);
  reports = λ r f.
      let g : a ≡ Err r = q.is_answer ∙ f in
      ap unpacked (e ∙ ap answer_word g) ∙ unpacks r (answer_packs s p q.is_answer r g);
}
