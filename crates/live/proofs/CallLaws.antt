-- What the calls answer and leave of the state, as the definitions and the promises have it. Assumes nothing.
use Rattle.std.specs.Prelude.{Result, Ok, Err}
use Rattle.rule.specs.inner.Sizes.{sizes}
use Prim.Native.Nat.{ℕ, zero, suc, ◌+◌, ◌*◌, ◌-◌, ◌≤◌, ◌<◌}
use native.Mathlib.Nat.{not-suc-le-zero}
use native.Mathlib.Numerals.{add-one}
use native.Mathlib.Omega.{arith}
use mathlib.Core.Path.{◌≡◌, refl, sym, ap, ap₂, ◌∙◌, subst⁻¹}
use mathlib.Core.Bool.{Bool, true, false, not, ◌&&◌, and-eq-true_iff, false≢true}
use mathlib.Core.List.{List, [], ◌∷◌, ◌++◌, map, append_assoc}
use lib.Dec.{leb, ltb, eqb}
use lib.ListN.{length, get_or, set, take, drop, replicate, length-map}
use lib.Seq.{paste, paste-suc, take-length}
use borrow.Author.Tests.{leb-true, lt-ltb, le-ltb, le-leb, lt-leb, eq-eqb, ne_eqb}
use Rattle.refusal.specs.declared.Refusal.{Refusal}
use Rattle.refusal.specs.declared.Refusal.TheVariants.{PlanSizes, Unwatchable, Unfitting}
use Rattle.refusal.specs.Outcome.{Outcome, unrefused}
use Rattle.refusal.specs.First.{◌or_else◌, unless}
use Rattle.fields.specs.LittleEndian.{number_at}
use Rattle.refusal.proofs.First.{or_else_clear}
use Rattle.rule.specs.Layout.{part_count, channel_count}
use Rattle.rule.specs.Put.{overwritten}
use Rattle.rule.specs.Sheet.{sheet_outcome}
use Rattle.rule.specs.declared.sizes.Sizes.{Sizes}
use Rattle.rule.specs.inner.Read.{counts_unless}
use Rattle.rule.proofs.Cleared.{cleared_sizes}
use Rattle.rule.proofs.SizesKnown.{sizes_known}
use Rattle.plan.specs.Layout.{tops_fit}
use Rattle.live.specs.declared.Watch.{Watch}
use Rattle.live.specs.declared.Live.{Live}
use Rattle.live.specs.declared.Answer.{Answer}
use Rattle.live.specs.declared.Answer.TheVariants as answer
use Rattle.live.specs.Kept.{tabulated, readings_after}
use Rattle.live.specs.Truths.{truths_to}
use Rattle.live.specs.State.{empty_watch, is_held, watch_at, rule_at, start_outcome, kept_top, empty_live, older, watch_after, row_outcome, after_row, with_place, watchable, add_outcome, after_add, drop_outcome, after_drop, watch_answer, answer_of, unless_refused}
use Rattle.live.specs.Calls.{Call, add, remove, row, places_meant, Tells, outcome_of, changed_state, state_after}
use Rattle.live.specs.Promise.{StartPromise, CallPromise, AnswerPromise}
use Rattle.live.specs.inner.Rules.{rule_read}
use Rattle.live.proofs.Filling.{Filled, fill_one}
use Rattle.live.proofs.Refusing.{refused_unchanged}
use Rattle.live.proofs.CallList.{refused_as_meant, answers_right}

-- ---- promises from definitions

pub call_kept : (call : Call) (before after : Live) (outcome : Outcome) → outcome ≡ outcome_of call before → after ≡ state_after call before
    → CallPromise call before after outcome
call_kept call before after outcome e f = record {
  is_call = e;
  state = f;
  unchanged = λ r g. f ∙ refused_unchanged call before r (sym e ∙ g);
  refuses = λ v tops calls a b c g. e ∙ ap (outcome_of call) g ∙ refused_as_meant call v tops calls a b c;
}

pub answer_kept : (s : Live) (p : ℕ) (told : Result Answer Refusal) → told ≡ answer_of s p → AnswerPromise s p told
answer_kept s p told e = record {
  is_answer = e;
  meaning = λ v tops calls a b c g h. subst⁻¹ (Tells (places_meant v tops calls p)) (e ∙ ap (λ (x : Live). answer_of x p) g) (answers_right v tops calls a b c p h);
}

call_refused : (call : Call) (s : Live) (r : Refusal) → Err r ≡ outcome_of call s → CallPromise call s s (Err r)
call_refused call s r e = call_kept call s s (Err r) e (sym (refused_unchanged call s r (sym e)))

done : (o : Outcome) (new old : Live) → unrefused ≡ o → new ≡ unless_refused o new old
unfolding unless_refused
done o new old e = rw (← e) refl

call_done : (call : Call) (s after : Live) → unrefused ≡ outcome_of call s → after ≡ changed_state call s → CallPromise call s after unrefused
unfolding state_after
call_done call s after e f = call_kept call s after unrefused e (f ∙ done (outcome_of call s) (changed_state call s) s e)

-- ---- the place

pub held_by : (w : Watch) (parts : ℕ) → w.parts ≡ parts → (leb 1 parts && leb parts 64) ≡ is_held w
unfolding is_held
held_by w parts e = sym (ap (λ (n : ℕ). leb 1 n && leb n 64) e)

pub held_within : (parts : ℕ) → (leb 1 parts && leb parts 64) ≡ true → (1 ≤ parts) × (parts ≤ 64)
held_within parts h = let p = (and-eq-true_iff (leb 1 parts) (leb parts 64)).0 h in (leb-true 1 parts p.0, leb-true parts 64 p.1)

-- An array of structs is known by the list of their fields.
pub unmapped : {X Y : Type 0} (f : X → Y) (l : List X) (n : ℕ) → length (map f l) ≡ n → length l ≡ n
unmapped f l n e = sym (length-map l f) ∙ e

within : {X : Type 0} (l : List X) (p : ℕ) (a b : X) → p < length l → get_or l p a ≡ get_or l p b
within [] p a b h = absurd (not-suc-le-zero h)
within (x ∷ l) zero a b h = refl
within (x ∷ l) (suc p) a b h = within l p a b (omega arith)

module _ (s : Live) (p : ℕ) where
  -- A place above 3.
  pub drop_above : 4 ≤ p → CallPromise (remove p) s s (Err Unfitting)
  unfolding outcome_of drop_outcome unless
  drop_above h = call_refused (remove p) s Unfitting (simp (le-ltb p 4 h))

  pub answer_above : 4 ≤ p → AnswerPromise s p (Err Unfitting)
  unfolding answer_of
  answer_above h = answer_kept s p (Err Unfitting) (simp (le-ltb p 4 h))

module _ (s : Live) (p : ℕ) (d : Watch) (four : length s.watches ≡ 4) (h : p < 4) where
  pub at_place : get_or s.watches p d ≡ watch_at s p
  unfolding watch_at
  at_place = within s.watches p d empty_watch (omega arith)

  pub answer_in : {told : Answer} → told ≡ watch_answer (get_or s.watches p d) → AnswerPromise s p (Ok told)
  unfolding answer_of
  answer_in {told} e = answer_kept s p (Ok told) (ap Ok (e ∙ ap watch_answer at_place) ∙ sym (simp (lt-ltb p 4 h)))

  module _ {b : Bool} (held : b ≡ is_held (get_or s.watches p d)) where
    is : b ≡ is_held (watch_at s p)
    is = held ∙ ap is_held at_place

    pub drop_empty : b ≡ false → CallPromise (remove p) s s (Err Unfitting)
    unfolding outcome_of drop_outcome unless
    drop_empty n = call_refused (remove p) s Unfitting (simp (lt-ltb p 4 h, sym is ∙ n))

    pub drop_done : b ≡ true → CallPromise (remove p) s (after_drop s p) unrefused
    unfolding outcome_of drop_outcome unless changed_state
    drop_done n = call_done (remove p) s (after_drop s p) (simp (lt-ltb p 4 h, sym is ∙ n)) refl

-- ---- what is told of a place

module _ (w : Watch) {b : Bool} (held : b ≡ is_held w) where
  pub told_empty : b ≡ false → answer.Empty ≡ watch_answer w
  unfolding watch_answer
  told_empty n = simp (sym held ∙ n)

  pub told_not_yet : b ≡ true → w.age ≡ 0 → answer.NotYet ≡ watch_answer w
  unfolding watch_answer
  told_not_yet n e = simp (sym held ∙ n, eq-eqb w.age 0 e)

  pub told_truth : b ≡ true → (w.age ≡ 0 → ⊥) → answer.Truth (eqb (get_or w.truths (w.parts - 1) 0) 1) ≡ watch_answer w
  unfolding watch_answer
  told_truth n e = simp (sym held ∙ n, ne_eqb w.age 0 e)

-- ---- a start

module _ (tops : List ℕ) (v channel : ℕ) where
  pub no_top_kept : v ≤ channel → 0 ≡ kept_top tops v channel
  unfolding kept_top
  no_top_kept h = simp (le-ltb channel v h)

  pub top_kept : {r : ℕ} → channel < v → r ≡ number_at 4 tops (4 * channel) → r ≡ kept_top tops v channel
  unfolding kept_top
  top_kept h e = e ∙ sym (simp (lt-ltb channel v h))

module _ (v : ℕ) (tops : List ℕ) where
  abbrev Fits : Bool → Type 0
  Fits r = (unless r PlanSizes ≡ start_outcome v tops) × ((r ≡ true) → length tops ≡ 4 * v)

  pub too_few : v < 1 → Fits false
  unfolding start_outcome
  too_few h = (simp (lt-leb 1 v h), λ e. absurd (false≢true e))

  pub too_many : 1 ≤ v → 8 < v → Fits false
  unfolding start_outcome
  too_many h k = (simp (le-leb 1 v h, lt-leb v 8 k), λ e. absurd (false≢true e))

  pub other_tops : 1 ≤ v → v ≤ 8 → (length tops ≡ 4 * v → ⊥) → Fits false
  unfolding start_outcome
  other_tops h k n = (simp (le-leb 1 v h, le-leb v 8 k, ne_eqb (length tops) (4 * v) n), λ e. absurd (false≢true e))

  pub tops_decide : {r : Bool} → 1 ≤ v → v ≤ 8 → length tops ≡ 4 * v → r ≡ tops_fit tops v → Fits r
  unfolding start_outcome
  tops_decide h k n e = (ap (λ (b : Bool). unless b PlanSizes) e ∙ simp (le-leb 1 v h, le-leb v 8 k, eq-eqb (length tops) (4 * v) n), λ _. n)

module _ (s : Live) (v : ℕ) (tops : List ℕ) {r : Bool} (fits : Fits v tops r) where
  pub start_refused : r ≡ false → StartPromise s v tops s (Err PlanSizes)
  unfolding unless unless_refused
  start_refused n = record { is_start = sym (ap (λ (b : Bool). unless b PlanSizes) n) ∙ fits.0; state = refl }

  pub start_done : {kept : List ℕ} → r ≡ true → kept ≡ tabulated 8 (kept_top tops v)
      → StartPromise s v tops (record { channels = v; tops = kept; readings = replicate 40 0; watches = empty_watch ∷ empty_watch ∷ empty_watch ∷ empty_watch ∷ []; rules = replicate 3344 0 }) unrefused
  unfolding unless unless_refused empty_live
  start_done n e = record { is_start = sym (ap (λ (b : Bool). unless b PlanSizes) n) ∙ fits.0; state = rw e refl }

-- ---- an add

-- the copy of a sheet, byte by byte
copied : (d s : List ℕ) (at : ℕ) → paste d at s (length s) ≡ overwritten d at s
unfolding overwritten
copied d s at = append_assoc (take at d) (take (length s) s) (drop (at + length s) d) ∙ ap (λ (l : List ℕ). take at d ++ (l ++ drop (at + length s) d)) (take-length s)

pub copy_all : (d s next : List ℕ) (at j : ℕ) → next ≡ paste d at s j → j ≡ length s → next ≡ overwritten d at s
copy_all d s next at j e f = e ∙ ap (paste d at s) f ∙ copied d s at

pub copy_next : (d s next : List ℕ) (at j x : ℕ) → at + j < length d → j < length s → next ≡ paste d at s j → x ≡ get_or s j 0
    → set next (at + j) x ≡ paste d at s (j + 1)
copy_next d s next at j x h k e f = ap₂ (λ (l : List ℕ) (y : ℕ). set l (at + j) y) e f ∙ paste-suc d at s j 0 h k ∙ ap (paste d at s) (sym (add-one j))

by_rule : (v : ℕ) (sheet : List ℕ) (o : Outcome) {read : Result Sizes Refusal} {r : Refusal} → read ≡ counts_unless o sheet → read ≡ Err r → Err r ≡ o
unfolding counts_unless
by_rule v sheet (Ok _) {read} {r} g h = absurd (let z : Ok (sizes (part_count sheet) (channel_count sheet)) ≡ Err r = sym g ∙ h in let y : ◌≡◌ {A = ℕ} 0 1 = cc in omega arith)
by_rule v sheet (Err q) {read} {r} g h = let z : Err r ≡ Err q = sym h ∙ g in cc

-- N and V, where they were read
abbrev counts : Result Sizes Refusal → Sizes
counts (Ok s) = s
counts (Err r) = sizes 0 0

by_counts : (v : ℕ) (sheet : List ℕ) (o : Outcome) {read : Result Sizes Refusal} {p c : ℕ} → read ≡ counts_unless o sheet → read ≡ Ok (sizes p c) → (o ≡ unrefused) × (p ≡ part_count sheet)
unfolding counts_unless
by_counts v sheet (Ok _) {read} {p} {c} g h = let z : Ok (sizes p c) ≡ Ok (sizes (part_count sheet) (channel_count sheet)) = sym h ∙ g in (refl, ap (λ (x : Result Sizes Refusal). (counts x).parts) z)
by_counts v sheet (Err q) {read} {p} {c} g h = absurd (let z : Ok (sizes p c) ≡ Err q = sym h ∙ g in let y : ◌≡◌ {A = ℕ} 0 1 = cc in omega arith)

two_tests : (a b c : Outcome) → (a or_else b) or_else c ≡ a or_else b or_else c
unfolding ◌or_else◌
two_tests (Ok _) b c = refl
two_tests (Err r) b c = refl

module _ (s : Live) (p : ℕ) (sheet : List ℕ) {read : Result Sizes Refusal} (e : read ≡ rule_read s.channels sheet) where
  abbrev first : Outcome
  first = sheet_outcome sheet or_else unless (watchable s.channels sheet) Unwatchable

  abbrev last : Outcome
  last = unless (ltb p 4 && not (is_held (watch_at s p))) Unfitting

  outcome_is : first or_else last ≡ outcome_of (add p sheet) s
  unfolding outcome_of add_outcome
  outcome_is = two_tests (sheet_outcome sheet) (unless (watchable s.channels sheet) Unwatchable) last

  pub add_refused : {r : Refusal} → read ≡ Err r → CallPromise (add p sheet) s s (Err r)
  unfolding rule_read ◌or_else◌
  add_refused {r} f = call_refused (add p sheet) s r (ap (λ (o : Outcome). o or_else last) (by_rule s.channels sheet first e f) ∙ outcome_is)

  module _ {n c : ℕ} (f : read ≡ Ok (sizes n c)) where
    known : (first ≡ unrefused) × (n ≡ part_count sheet)
    unfolding rule_read
    known = by_counts s.channels sheet first e f

    pub add_parts : n ≡ part_count sheet
    add_parts = known.1

    pub add_short : length sheet ≤ 836
    add_short =
        let c = ((or_else_clear (sheet_outcome sheet) (unless (watchable s.channels sheet) Unwatchable)).0 known.0).0 in
        let k = sizes_known sheet (cleared_sizes sheet c) in omega (arith, k.1, k.4)

    same : last ≡ outcome_of (add p sheet) s
    unfolding ◌or_else◌
    same = sym (ap (λ (o : Outcome). o or_else last) known.0) ∙ outcome_is

    pub add_above : 4 ≤ p → CallPromise (add p sheet) s s (Err Unfitting)
    unfolding unless
    add_above h = call_refused (add p sheet) s Unfitting (sym (simp (le-ltb p 4 h)) ∙ same)

    module _ (d : Watch) (four : length s.watches ≡ 4) (h : p < 4) {b : Bool} (held : b ≡ is_held (get_or s.watches p d)) where
      there : b ≡ is_held (watch_at s p)
      there = held ∙ ap is_held (at_place s p d four h)

      pub add_taken : b ≡ true → CallPromise (add p sheet) s s (Err Unfitting)
      unfolding unless
      add_taken t = call_refused (add p sheet) s Unfitting (sym (simp (lt-ltb p 4 h, sym there ∙ t)) ∙ same)

      pub add_done : b ≡ false → {rules : List ℕ} → rules ≡ overwritten s.rules (836 * p) sheet
          → CallPromise (add p sheet) s (with_place s p (record { parts = n; age = 0; truths = replicate 64 0 }) rules) unrefused
      unfolding unless changed_state after_add
      add_done t {rules} e =
          call_done (add p sheet) s (with_place s p (record { parts = n; age = 0; truths = replicate 64 0 }) rules)
          (sym (simp (lt-ltb p 4 h, sym there ∙ t)) ∙ same)
          (ap₂ (λ (k : ℕ) (l : List ℕ). with_place s p (record { parts = k; age = 0; truths = replicate 64 0 }) l) known.1 e)

-- ---- a row

module _ (s : Live) (bytes : List ℕ) where
  pub row_channels : 8 < s.channels → CallPromise (row bytes) s s (Err Unfitting)
  unfolding outcome_of row_outcome unless
  row_channels h = call_refused (row bytes) s Unfitting (simp (lt-leb s.channels 8 h))

  pub row_length : s.channels ≤ 8 → (length bytes ≡ 4 * s.channels → ⊥) → CallPromise (row bytes) s s (Err Unfitting)
  unfolding outcome_of row_outcome unless
  row_length h n = call_refused (row bytes) s Unfitting (simp (le-leb s.channels 8 h, ne_eqb (length bytes) (4 * s.channels) n))

  abbrev After : List ℕ → List Watch → Live
  After readings watches = record { channels = s.channels; tops = s.tops; readings = readings; watches = watches; rules = s.rules }

  pub row_done : {readings : List ℕ} {watches : List Watch} → s.channels ≤ 8 → length bytes ≡ 4 * s.channels
      → readings ≡ readings_after s.readings s.tops bytes s.channels
      → watches ≡ map (λ p. watch_after readings (take 836 (drop (836 * p) s.rules)) (get_or s.watches p empty_watch)) (0 ∷ 1 ∷ 2 ∷ 3 ∷ [])
      → CallPromise (row bytes) s (After readings watches) unrefused
  unfolding outcome_of row_outcome unless changed_state after_row rule_at watch_at
  row_done {readings} {watches} h k e f =
      call_done (row bytes) s (After readings watches) (simp (le-leb s.channels 8 h, eq-eqb (length bytes) (4 * s.channels) k))
      (ap (After readings) f ∙ ap (λ (l : List ℕ). After l (map (λ p. watch_after l (take 836 (drop (836 * p) s.rules)) (get_or s.watches p empty_watch)) (0 ∷ 1 ∷ 2 ∷ 3 ∷ []))) e)

-- one place of the four
module _ (readings rules : List ℕ) (old watches : List Watch) (d : Watch) (p : ℕ) where
  abbrev row_at : ℕ → Watch
  row_at q = watch_after readings (take 836 (drop (836 * q) rules)) (get_or old q empty_watch)

  pub one_after : length watches ≡ 4 → Filled empty_watch old row_at p watches → p < 4 → {x : Watch}
      → x ≡ watch_after readings (take (836 * p + 836 - 836 * p) (drop (836 * p) rules)) (get_or watches p d) → Filled empty_watch old row_at (p + 1) (set watches p x)
  one_after four w h {x} e =
      let k : 836 * p + 836 - 836 * p ≡ 836 = omega arith in
      let l : p < length watches = omega arith in
      fill_one empty_watch old row_at p watches x w (let z = w.long in omega arith)
      (e ∙ ap₂ (λ (n : ℕ) (y : Watch). watch_after readings (take n (drop (836 * p) rules)) y) k (within watches p d empty_watch l ∙ w.rest p (omega arith)))

module _ (readings rule : List ℕ) (w : Watch) {b : Bool} (held : b ≡ is_held w) where
  pub not_held : b ≡ false → w ≡ watch_after readings rule w
  unfolding watch_after
  not_held n = simp (sym held ∙ n)

  pub row_held : {age : ℕ} {truths : List ℕ} → b ≡ true → age ≡ older w.age → truths ≡ truths_to readings age rule w.truths w.parts w.parts
      → record { parts = w.parts; age = age; truths = truths } ≡ watch_after readings rule w
  unfolding watch_after
  row_held n e f = simp (sym held ∙ n, f, e)
