-- For every list of calls from the empty state, the state answers what each place means. Assumes nothing.
use Rattle.std.specs.Prelude.{Ok, Err}
use Prim.Native.Nat.{ℕ, zero, suc, ◌+◌, ◌*◌, ◌≤◌, ◌<◌}
use native.Mathlib.Decide.{dec_lt, ℕ_discrete}
use native.Mathlib.Omega.{arith}
use mathlib.Core.Path.{◌≡◌, refl, sym, ap, ◌∙◌, subst⁻¹}
use mathlib.Core.Bool.{Bool, true, false, not, ◌&&◌, and-eq-true_iff}
use mathlib.Core.Logic.{by_cases}
use mathlib.Core.List.{List, [], ◌∷◌, map}
use lib.Dec.{leb, ltb, eqb}
use lib.ListN.{length, get_or, drop, replicate, length-set, length-replicate}
use lib.Seq.{get_or-set_same, get_or-set_other, get_or-take, get_or-drop}
use borrow.Author.Tests.{lt-ltb, le-ltb, le-leb, eq-eqb, ne_eqb, leb-true, ltb-true}
use Rattle.fields.specs.LittleEndian.{number_at}
use Rattle.fields.specs.inner.Ranges.{Bytes}
use Rattle.fields.proofs.ByteParts.{as_bytes}
use Rattle.refusal.specs.Outcome.{Outcome, unrefused}
use Rattle.refusal.specs.declared.Refusal.TheVariants.{PlanSizes, Unwatchable, Unfitting}
use Rattle.refusal.specs.First.{◌or_else◌, unless}
use Rattle.refusal.proofs.First.{or_else_clear, unless_clear}
use Rattle.rule.specs.Put.{overwritten}
use Rattle.rule.specs.Sheet.{sheet_outcome}
use Rattle.rule.proofs.SizesKnown.{sizes_known}
use Rattle.rule.proofs.Cleared.{cleared_sizes}
use Rattle.rule.proofs.Overwritten.{inside, before, behind}
use Rattle.rule.proofs.Overwriting.{overwritten_length}
use Rattle.plan.specs.Layout.{tops_fit}
use Rattle.past.specs.Rows.{Row}
use Rattle.live.specs.declared.Watch.{Watch}
use Rattle.live.specs.declared.Live.{Live}
use Rattle.live.specs.Kept.{readings_after}
use Rattle.live.specs.State.{empty_watch, new_watch, is_held, watch_at, rule_at, start_outcome, kept_top, empty_live, watch_after, row_outcome, after_row, with_place, watchable, add_outcome, after_add, drop_outcome, after_drop, watch_answer, answer_of, unless_refused}
use Rattle.live.specs.Calls.{Call, add, remove, row, OfBytes, Sent, AllSent, Place, vacant, watched, is_vacant, row_seen, extended, placed, outcome_meant, changed_places, places_unless, places_after, places_meant, Tells, outcome_of, changed_state, state_after, states_after, reached}
use Rattle.live.proofs.Filling.{tab_get}
use Rattle.live.proofs.KeptRows.{Keeps, keeps_on}
use Rattle.live.proofs.OnePlace.{Stands, free_same, begun, stands_on, place_tells}

-- The state stands for what its places mean.
pub record Good (v : ℕ) (tops : List ℕ) (places : ℕ → Place) (s : Live) : Type 0 where
  pub channels_are : s.channels ≡ v
  pub tops_are : (c : ℕ) → c < v → get_or s.tops c 0 ≡ number_at 4 tops (4 * c)
  pub four : length s.watches ≡ 4
  pub long : length s.rules ≡ 3344
  pub each : (p : ℕ) → p < 4 → Stands v s.readings s.rules p (places p) (watch_at s p)

-- ---- what may be started

pub started : (v : ℕ) (tops : List ℕ) → start_outcome v tops ≡ unrefused → (v ≤ 8) × (tops_fit tops v ≡ true)
unfolding start_outcome
started v tops e =
    let a = (unless_clear (leb 1 v && (leb v 8 && (eqb (length tops) (4 * v) && tops_fit tops v))) PlanSizes).0 e in
    let b = (and-eq-true_iff (leb 1 v) (leb v 8 && (eqb (length tops) (4 * v) && tops_fit tops v))).0 a in
    let c = (and-eq-true_iff (leb v 8) (eqb (length tops) (4 * v) && tops_fit tops v)).0 b.1 in
    let d = (and-eq-true_iff (eqb (length tops) (4 * v)) (tops_fit tops v)).0 c.1 in
    (leb-true v 8 c.0, d.1)

-- ---- the copies of the rules

own_copy : (s : Live) (p j : ℕ) → j < 836 → get_or (rule_at s p) j 0 ≡ get_or s.rules (836 * p + j) 0
unfolding rule_at
own_copy s p j h = get_or-take 836 (drop (836 * p) s.rules) j 0 h ∙ get_or-drop (836 * p) s.rules j 0

module _ (rules sheet : List ℕ) (p : ℕ) (long : length rules ≡ 3344) (short : length sheet ≤ 836) (low : p < 4) where
  abbrev new : List ℕ
  new = overwritten rules (836 * p) sheet

  new_long : length new ≡ 3344
  new_long = overwritten_length rules sheet (836 * p) (omega arith) ∙ long

  new_copy : (j : ℕ) → j < length sheet → get_or new (836 * p + j) 0 ≡ get_or sheet j 0
  new_copy j h =
      sym (get_or-drop (836 * p) new j 0) ∙ sym (get_or-take (length sheet) (drop (836 * p) new) j 0 h)
      ∙ ap (λ (l : List ℕ). get_or l j 0) (inside rules sheet (836 * p) (omega arith) (length sheet) refl)

  other_copy : (q j : ℕ) → (q ≡ p → ⊥) → j < 836 → get_or new (836 * q + j) 0 ≡ get_or rules (836 * q + j) 0
  other_copy q j n h =
      by_cases (dec_lt q p)
      (λ l. before rules sheet (836 * p) (omega arith) (836 * q + j) (omega arith))
      (λ l. let k : p < q = above l in behind rules sheet (836 * p) (omega arith) (836 * q + j) (omega arith))
    where
      above : (q < p → ⊥) → p < q
      above l = by_cases (dec_lt p q) (λ k. k) (λ k. absurd (n (omega arith)))

-- a place stands as well where other copies were changed
moved : (v : ℕ) (readings rules new : List ℕ) (p : ℕ) (place : Place) (w : Watch)
    → ((j : ℕ) → j < 836 → get_or new (836 * p + j) 0 ≡ get_or rules (836 * p + j) 0)
    → Stands v readings rules p place w → Stands v readings new p place w
moved v readings rules new p vacant w same h = h
moved v readings rules new p (watched sheet rows) w same h = record {
  clear = h.clear;
  can = h.can;
  bytes = h.bytes;
  parts_are = h.parts_are;
  age_is = h.age_is;
  copied = λ j l. same j (omega (arith, sizes_known sheet (cleared_sizes sheet h.clear))) ∙ h.copied j l;
  keeps = h.keeps;
  marks = h.marks;
  stored = h.stored;
  right = h.right;
}

same_tests : (p : ℕ) (a b : Bool) → (p < 4 → a ≡ b) → (ltb p 4 && a) ≡ (ltb p 4 && b)
same_tests p a b e =
    by_cases (dec_lt p 4)
    (λ l. ap (λ (x : Bool). ltb p 4 && x) (e l))
    (λ l. let h : 4 ≤ p = omega arith in simp (le-ltb p 4 h))

four_at : {X : Type 0} (f : ℕ → X) (d : X) (p : ℕ) → p < 4 → get_or (map f (0 ∷ 1 ∷ 2 ∷ 3 ∷ [])) p d ≡ f p
four_at f d zero h = refl
four_at f d (suc zero) h = refl
four_at f d (suc (suc zero)) h = refl
four_at f d (suc (suc (suc zero))) h = refl
four_at f d (suc (suc (suc (suc p)))) h = absurd (omega arith)

module _ (v : ℕ) (tops : List ℕ) (few : v ≤ 8) (fit : tops_fit tops v ≡ true) (top_bytes : Bytes tops) where
  -- ---- the empty state

  none_held : (p : ℕ) → p < 4 → is_held (get_or (replicate 4 empty_watch) p empty_watch) ≡ false
  unfolding is_held
  none_held zero h = refl
  none_held (suc zero) h = refl
  none_held (suc (suc zero)) h = refl
  none_held (suc (suc (suc zero))) h = refl
  none_held (suc (suc (suc (suc p)))) h = absurd (omega arith)

  empty_good : Good v tops (λ q. vacant) (empty_live v tops)
  unfolding empty_live watch_at kept_top
  empty_good = record {
    channels_are = refl;
    tops_are = λ c h. tab_get 8 (kept_top tops v) c (omega arith) ∙ simp (lt-ltb c v h);
    four = refl;
    long = length-replicate {A = ℕ} 3344 0;
    each = none_held;
  }

  -- ---- each call

  put_good : (places : ℕ → Place) (s : Live) (p : ℕ) (place : Place) (w : Watch) (rules : List ℕ) → Good v tops places s → p < 4 → length rules ≡ 3344
      → ((q : ℕ) → (q ≡ p → ⊥) → (j : ℕ) → j < 836 → get_or rules (836 * q + j) 0 ≡ get_or s.rules (836 * q + j) 0)
      → Stands v s.readings rules p place w → Good v tops (placed p place places) (with_place s p w rules)
  unfolding placed with_place watch_at
  put_good places s p place w rules g low long same h = record {
    channels_are = g.channels_are;
    tops_are = g.tops_are;
    four = length-set s.watches p w ∙ g.four;
    long = long;
    each = λ q k. by_cases (ℕ_discrete q p)
        (λ e. rw (eq-eqb q p e, e, get_or-set_same s.watches p w empty_watch (omega (arith, g.four))) h)
        (λ n. rw (ne_eqb q p n, get_or-set_other s.watches p q w empty_watch n)
        (moved v s.readings s.rules rules q (places q) (watch_at s q) (same q n) (g.each q k)));
  }

  row_good : (places : ℕ → Place) (s : Live) (bytes : List ℕ) → Bytes bytes → Good v tops places s
      → Good v tops (λ q. extended (row_seen tops bytes) (places q)) (after_row s bytes)
  unfolding after_row watch_at
  row_good places s bytes sent g = record {
    channels_are = g.channels_are;
    tops_are = g.tops_are;
    four = refl;
    long = g.long;
    each = λ p h. subst⁻¹ (Stands v then s.rules p (extended (row_seen tops bytes) (places p)))
        (four_at (λ p. watch_after then (rule_at s p) (watch_at s p)) empty_watch p h)
        (stands_on v few (row_seen tops bytes) then s.rules p (rule_at s p) (own_copy s p) s.readings (places p) (watch_at s p) more (g.each p h));
  }
    where
      then : List ℕ
      then = readings_after s.readings s.tops bytes s.channels

      more : (rows : List Row) → Keeps v rows s.readings → Keeps v (row_seen tops bytes ∷ rows) then
      more rows k =
          subst⁻¹ (λ (u : ℕ). Keeps v (row_seen tops bytes ∷ rows) (readings_after s.readings s.tops bytes u)) g.channels_are
          (keeps_on v few tops s.tops fit top_bytes g.tops_are bytes sent s.readings rows k)

  -- ---- the refusals

  pub outcome_same : (call : Call) (places : ℕ → Place) (s : Live) → Good v tops places s → outcome_of call s ≡ outcome_meant v tops call places
  unfolding outcome_of outcome_meant add_outcome drop_outcome row_outcome
  outcome_same (add p sheet) places s g =
      ap (λ (u : ℕ). sheet_outcome sheet or_else unless (watchable u sheet) Unwatchable or_else unless (ltb p 4 && not (is_held (watch_at s p))) Unfitting) g.channels_are
      ∙ ap (λ (b : Bool). sheet_outcome sheet or_else unless (watchable v sheet) Unwatchable or_else unless b Unfitting)
      (same_tests p (not (is_held (watch_at s p))) (is_vacant (places p)) (λ l. free_same v s.readings s.rules p (places p) (watch_at s p) (g.each p l)))
  outcome_same (remove p) places s g =
      ap (λ (b : Bool). unless b Unfitting)
      (same_tests p (not (not (is_held (watch_at s p)))) (not (is_vacant (places p)))
      (λ l. ap not (free_same v s.readings s.rules p (places p) (watch_at s p) (g.each p l))))
  outcome_same (row bytes) places s g =
      ap (λ (u : ℕ). unless (leb u 8 && eqb (length bytes) (4 * u)) Unfitting) g.channels_are
      ∙ ap (λ (b : Bool). unless (b && eqb (length bytes) (4 * v)) Unfitting) (le-leb v 8 few)

  -- ---- a call that is not refused

  call_good : (call : Call) (places : ℕ → Place) (s : Live) → Sent call → Good v tops places s → outcome_meant v tops call places ≡ unrefused
      → Good v tops (changed_places v tops call places) (changed_state call s)
  unfolding Sent OfBytes outcome_meant add_outcome drop_outcome changed_places changed_state after_add after_drop
  call_good (add p sheet) places s sent g e =
      let a = (or_else_clear (sheet_outcome sheet) (unless (watchable v sheet) Unwatchable or_else unless (ltb p 4 && is_vacant (places p)) Unfitting)).0 e in
      let b = (or_else_clear (unless (watchable v sheet) Unwatchable) (unless (ltb p 4 && is_vacant (places p)) Unfitting)).0 a.1 in
      let can = (unless_clear (watchable v sheet) Unwatchable).0 b.0 in
      let c = (and-eq-true_iff (ltb p 4) (is_vacant (places p))).0 ((unless_clear (ltb p 4 && is_vacant (places p)) Unfitting).0 b.1) in
      let low = ltb-true p 4 c.0 in
      let short : length sheet ≤ 836 = omega (arith, sizes_known sheet (cleared_sizes sheet a.0)) in
      put_good places s p (watched sheet []) (new_watch sheet) (overwritten s.rules (836 * p) sheet) g low
      (new_long s.rules sheet p g.long short low)
      (λ q n j h. other_copy s.rules sheet p g.long short low q j n h)
      (begun v s.readings (overwritten s.rules (836 * p) sheet) p sheet a.0 can (as_bytes sheet sent) (new_copy s.rules sheet p g.long short low))
  call_good (remove p) places s sent g e =
      let c = (and-eq-true_iff (ltb p 4) (not (is_vacant (places p)))).0 ((unless_clear (ltb p 4 && not (is_vacant (places p))) Unfitting).0 e) in
      put_good places s p vacant empty_watch s.rules g (ltb-true p 4 c.0) g.long (λ q n j h. refl) (none_held 0 (omega arith))
  call_good (row bytes) places s sent g e = row_good places s bytes (as_bytes bytes sent) g

  chosen : (x : Outcome) (new old : ℕ → Place) (s t : Live) → (x ≡ unrefused → Good v tops new s) → Good v tops old t
      → Good v tops (places_unless v tops x new old) (unless_refused x s t)
  unfolding places_unless unless_refused
  chosen (Ok _) new old s t h k = h refl
  chosen (Err r) new old s t h k = k

  -- A call keeps it, refused or not,
  after_good : (call : Call) (places : ℕ → Place) (s : Live) → Sent call → Good v tops places s
      → Good v tops (places_unless v tops (outcome_meant v tops call places) (changed_places v tops call places) places) (state_after call s)
  unfolding state_after
  after_good call places s sent g =
      subst⁻¹ (λ (x : Outcome). Good v tops (places_unless v tops (outcome_meant v tops call places) (changed_places v tops call places) places) (unless_refused x (changed_state call s) s))
      (outcome_same call places s g)
      (chosen (outcome_meant v tops call places) (changed_places v tops call places) places (changed_state call s) s (call_good call places s sent g) g)

  -- and so does a list of them.
  all_good : (calls : List Call) (places : ℕ → Place) (s : Live) → AllSent calls → Good v tops places s
      → Good v tops (places_after v tops calls places) (states_after calls s)
  unfolding AllSent places_after states_after
  all_good [] places s sent g = g
  all_good (call ∷ calls) places s sent g =
      all_good calls (places_unless v tops (outcome_meant v tops call places) (changed_places v tops call places) places) (state_after call s) sent.1
      (after_good call places s sent.0 g)

pub reached_good : (v : ℕ) (tops : List ℕ) (calls : List Call) → start_outcome v tops ≡ unrefused → OfBytes tops → AllSent calls
    → Good v tops (places_meant v tops calls) (reached v tops calls)
unfolding OfBytes places_meant reached
reached_good v tops calls start bytes sent =
    let k = started v tops start in
    all_good v tops k.0 k.1 (as_bytes tops bytes) calls (λ q. vacant) (empty_live v tops) sent (empty_good v tops k.0 k.1 (as_bytes tops bytes))

-- After every list of calls from the empty state, the next call is refused, and by which number, as the places mean.
pub refused_as_meant : (call : Call) (v : ℕ) (tops : List ℕ) (calls : List Call) → start_outcome v tops ≡ unrefused → OfBytes tops → AllSent calls
    → outcome_of call (reached v tops calls) ≡ outcome_meant v tops call (places_meant v tops calls)
unfolding OfBytes
refused_as_meant call v tops calls start bytes sent =
    let k = started v tops start in
    outcome_same v tops k.0 k.1 (as_bytes tops bytes) call (places_meant v tops calls) (reached v tops calls) (reached_good v tops calls start bytes sent)

answer_at : (s : Live) (p : ℕ) → p < 4 → answer_of s p ≡ Ok (watch_answer (watch_at s p))
unfolding answer_of
answer_at s p h = simp (lt-ltb p 4 h)

-- The answer that the state then holds for a place is what the place means.
pub answers_right : (v : ℕ) (tops : List ℕ) (calls : List Call) → start_outcome v tops ≡ unrefused → OfBytes tops → AllSent calls → (p : ℕ) → p < 4
    → Tells (places_meant v tops calls p) (answer_of (reached v tops calls) p)
answers_right v tops calls start bytes sent p h =
    let s : Live = reached v tops calls in
    let g = reached_good v tops calls start bytes sent in
    subst⁻¹ (Tells (places_meant v tops calls p)) (answer_at s p h) (place_tells v s.readings s.rules p (places_meant v tops calls p) (watch_at s p) (g.each p h))
