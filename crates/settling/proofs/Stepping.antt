-- The marks of an operator, made row after row in the scratch: what the code knows at each row, upward and downward. The marks of the
-- parts that it names are lower and stay. Assumes nothing.
use Prim.Native.Nat.{ℕ, zero, suc, ◌+◌, ◌-◌, ◌≤◌, ◌<◌}
use native.Mathlib.Decide.{dec_lt}
use native.Mathlib.Omega.{arith}
use mathlib.Core.Path.{◌≡◌, refl, sym, ap, ap₂, ◌∙◌, subst, subst⁻¹}
use mathlib.Core.Bool.{Bool, true, beq}
use mathlib.Core.List.{List}
use mathlib.Core.Logic.{by_cases}
use Rattle.cltlb.specs.Fits.{names_lower, view_fits}
use Rattle.cltlb.specs.declared.Operator.{Operator}
use Rattle.cltlb.specs.declared.Operator.TheVariants.{One, Two}
use Rattle.cltlb.specs.declared.View.TheVariants as view
use Rattle.cltlb.proofs.Fits.{one_lower, two_lower, view_more}
use Rattle.plan.specs.Positions.{last, after}
use Rattle.plan.proofs.Rows.{after_last, after_other}
use Rattle.words.specs.inner.Words.{most_parts, mark_at}
use Rattle.words.specs.inner.Written.{Marked}
use Rattle.words.proofs.Marking.{marked_none, marked_same, upward_next, down_next}
use Rattle.marks.specs.declared.operators.Beside.{Beside}
use Rattle.marks.specs.declared.operators.Beside.TheVariants.{After, Before}
use Rattle.marks.specs.Equations.{beside_of, mark_one, mark_two, step_on, watched_truth}
use Rattle.marks.specs.Parts.{running, closes}
use Rattle.marks.proofs.Stepped.{turned, ahead_closes, back_closes}
use Rattle.labelling.specs.Labels.{end_of, following, label_by, operator_label}
use Rattle.settling.specs.inner.Seen.{seen_back, SeenAhead}
use Rattle.settling.specs.inner.Scratch.{OperatorTried}

-- ---- the parts that an operator names

-- They are parts that there is room for.
pub names_few : {i : ℕ} (o : Operator) → i < most_parts → names_lower i o ≡ true → names_lower most_parts o ≡ true
unfolding view_fits
names_few {i} o l names = view_more 0 0 (omega arith) i most_parts (omega arith) (view.Operator o) names

-- Where the marks of the parts below i are the same, so is what an operator over them makes of a row, and what it sees of one.
module _ (mark other : ℕ → ℕ → Bool) (i : ℕ) (same : (a : ℕ) → a < i → (row : ℕ) → mark a row ≡ other a row) where
  pub step_kept : (o : Operator) → names_lower i o ≡ true → (row : ℕ) (beside : Bool) → step_on mark o row beside ≡ step_on other o row beside
  step_kept (One s a) names row beside = ap (λ (x : Bool). mark_one s x beside) (same a (one_lower i s a names) row)
  step_kept (Two s a b) names row beside =
      let low = two_lower i s a b names in ap₂ (λ (x y : Bool). mark_two s x y beside) (same a low.0 row) (same b low.1 row)

  watched_kept : (o : Operator) → names_lower i o ≡ true → (own : Bool) (row : ℕ) → watched_truth mark o own row ≡ watched_truth other o own row
  watched_kept (One s a) names own row = same a (one_lower i s a names) row
  watched_kept (Two s a b) names own row = refl

-- ---- upward

-- The truth on a row, by what is seen of the row before.
running_seen : (mark : ℕ → ℕ → Bool) (o : Operator) (first : Bool) (row : ℕ) → running mark o first row ≡ step_on mark o row (seen_back mark o first row)
unfolding running seen_back
running_seen mark o first zero = refl
running_seen mark o first (suc row) = refl

module _ (old : List ℕ) (i : ℕ) (o : Operator) (first : Bool) (count : ℕ) where
  -- the rows below `row` are marked, and `beside` is what is seen of the last of them
  pub record Onward (new : List ℕ) (row : ℕ) (beside : Bool) : Type 0 where
    pub few : row ≤ count
    pub done : Marked old new i 0 row (running (mark_at old) o first)
    pub seen : beside ≡ seen_back (mark_at old) o first row

  pub onward_first : Onward old 0 first
  unfolding seen_back
  onward_first = record { few = omega arith; done = marked_none old i 0 (running (mark_at old) o first); seen = refl }

  module _ {mid new : List ℕ} {row : ℕ} {beside truth next : Bool} (names : names_lower i o ≡ true) (s : Onward mid row beside) (l : row < count)
      (is : truth ≡ step_on (mark_at mid) o row beside) (sees : next ≡ watched_truth (mark_at mid) o truth row) (put : Marked mid new i row (row + 1) (λ _. truth)) where
    true_there : truth ≡ running (mark_at old) o first row
    true_there =
        is
        ∙ step_kept (mark_at mid) (mark_at old) i s.done.lower o names row beside
        ∙ ap (step_on (mark_at old) o row) s.seen
        ∙ sym (running_seen (mark_at old) o first row)

    seen_there : next ≡ seen_back (mark_at old) o first (suc row)
    unfolding seen_back
    seen_there =
        sees
        ∙ watched_kept (mark_at mid) (mark_at old) i s.done.lower o names truth row
        ∙ ap (λ (x : Bool). watched_truth (mark_at old) o x row) true_there

    pub onward_next : Onward new (row + 1) next
    onward_next =
        let one_on : suc row ≡ row + 1 = omega arith in
        record {
          few = omega arith;
          done = (upward_next old i (running (mark_at old) o first) (s.few, s.done) l true_there put).1;
          seen = seen_there ∙ ap (seen_back (mark_at old) o first) one_on;
        }

  pub onward_all : {new : List ℕ} {row : ℕ} {beside : Bool} → Onward new row beside → count ≤ row
      → (beside ≡ seen_back (mark_at old) o first count) × Marked old new i 0 count (running (mark_at old) o first)
  onward_all {new} {row} {beside} s h =
      let few = s.few in
      let same : row ≡ count = omega arith in
      subst (λ (m : ℕ). (beside ≡ seen_back (mark_at old) o first m) × Marked old new i 0 m (running (mark_at old) o first)) same (s.seen, s.done)

-- ---- downward

module _ (P C : ℕ) (mark : ℕ → ℕ → Bool) (o : Operator) where
  -- k rows followed from a row on
  abbrev follow : ℕ → ℕ → Bool
  follow k row = following P C mark o k row

  -- One row more, of which the row after is known.
  followed : (k row next : ℕ) → after P C row ≡ next → step_on mark o row (watched_truth mark o (follow k next) next) ≡ follow (suc k) row
  unfolding following
  followed k row next e = ap (λ (r : ℕ). step_on mark o row (watched_truth mark o (follow k r) r)) (sym e)

  next_row : (row : ℕ) → suc row < P + C → after P C row ≡ suc row
  next_row row l = let one_on : row + 1 ≡ suc row = omega arith in after_other P C row l ∙ one_on

  first_again : (row : ℕ) → suc row ≡ P + C → after P C row ≡ P
  unfolding last
  first_again row e = let there : row ≡ P + C - 1 = omega arith in ap (after P C) there ∙ after_last P C

  -- ---- once round the cycle

  -- at `row`, the rows from there to the last one have been followed; at W none have
  pub record Round (row : ℕ) (beside : Bool) : Type 0 where
    pub few : row ≤ P + C
    pub low : P ≤ row
    pub end : row ≡ P + C → beside ≡ watched_truth mark o (end_of o) P
    pub seen : row < P + C → beside ≡ watched_truth mark o (follow (P + C - row) row) row

  pub round_first : {row : ℕ} {end beside : Bool} → P + C ≡ row → end ≡ end_of o → beside ≡ watched_truth mark o end P → Round row beside
  round_first whole e h = record { few = omega arith; low = omega arith; end = λ _. h ∙ ap (λ (x : Bool). watched_truth mark o x P) e; seen = λ l. absurd (omega arith) }

  module _ {row : ℕ} {beside truth next : Bool} (s : Round row beside) (l : P < row) (is : truth ≡ step_on mark o (row - 1) beside)
      (sees : next ≡ watched_truth mark o truth (row - 1)) where
    above : suc (row - 1) ≡ row
    above = omega arith

    round_truth : truth ≡ follow (P + C - (row - 1)) (row - 1)
    unfolding following
    round_truth =
        let few = s.few in
        by_cases (dec_lt row (P + C))
        (λ q. let more : suc (P + C - row) ≡ P + C - (row - 1) = omega arith in
        is
        ∙ ap (step_on mark o (row - 1)) (s.seen q)
        ∙ followed (P + C - row) (row - 1) row (next_row (row - 1) (omega arith) ∙ above)
        ∙ ap (λ (k : ℕ). follow k (row - 1)) more)
        (λ q. let whole : row ≡ P + C = omega arith in
        let one : suc 0 ≡ P + C - (row - 1) = omega arith in
        is
        ∙ ap (step_on mark o (row - 1)) (s.end whole)
        ∙ followed 0 (row - 1) P (first_again (row - 1) (above ∙ whole))
        ∙ ap (λ (k : ℕ). follow k (row - 1)) one)

    pub round_next : Round (row - 1) next
    round_next =
        let few = s.few in
        record {
          few = omega arith;
          low = omega arith;
          end = λ e. absurd (omega arith);
          seen = λ q. sees ∙ ap (λ (x : Bool). watched_truth mark o x (row - 1)) round_truth;
        }

  pub round_all : 1 ≤ C → {row : ℕ} {beside : Bool} → Round row beside → row ≤ P → beside ≡ watched_truth mark o (follow C P) P
  round_all h_c {row} {beside} s h =
      let low = s.low in
      let there : row ≡ P = omega arith in
      let once : P + C - P ≡ C = omega arith in
      subst (λ (r : ℕ). beside ≡ watched_truth mark o (follow (P + C - r) r) r) there (s.seen (omega arith))
      ∙ ap (λ (k : ℕ). watched_truth mark o (follow k P) P) once

  -- ---- what is seen beside the last row, once it has been followed round

  pub seen_round : {beside : Bool} → beside ≡ watched_truth mark o (follow C P) P → SeenAhead P C mark o (P + C) beside
  seen_round e before h =
      let more : suc C ≡ P + C - before + C = omega arith in
      ap (step_on mark o before) e ∙ followed C before P (first_again before h) ∙ ap (λ (k : ℕ). follow k before) more

  -- What is seen on the row before.
  ahead_next : {row : ℕ} (beside : Bool) {truth : Bool} → 0 < row → row ≤ P + C → SeenAhead P C mark o row beside → truth ≡ step_on mark o (row - 1) beside
      → (truth ≡ follow (P + C - (row - 1) + C) (row - 1)) × SeenAhead P C mark o (row - 1) (watched_truth mark o truth (row - 1))
  ahead_next {row} beside {truth} l few s is = (there, before)
    where
      above : suc (row - 1) ≡ row
      above = omega arith

      there : truth ≡ follow (P + C - (row - 1) + C) (row - 1)
      there = is ∙ s (row - 1) above

      before : SeenAhead P C mark o (row - 1) (watched_truth mark o truth (row - 1))
      before r e =
          let more : suc (P + C - (row - 1) + C) ≡ P + C - r + C = omega arith in
          ap (λ (x : Bool). step_on mark o r (watched_truth mark o x (row - 1))) there
          ∙ followed (P + C - (row - 1) + C) r (row - 1) (next_row r (omega arith) ∙ e)
          ∙ ap (λ (k : ℕ). follow k r) more

-- ---- the marks of one that looks ahead

module _ (P C : ℕ) (old : List ℕ) (i : ℕ) (o : Operator) where
  -- followed to the last row and once more round the cycle
  abbrev ahead : ℕ → Bool
  ahead row = following P C (mark_at old) o (P + C - row + C) row

  -- the rows from `row` on are marked, and `beside` is what is seen on the row before
  pub record Back (new : List ℕ) (row : ℕ) (beside : Bool) : Type 0 where
    pub few : row ≤ P + C
    pub done : Marked old new i row (P + C) ahead
    pub seen : SeenAhead P C (mark_at old) o row beside

  pub back_first : {row : ℕ} {end : Bool} → P + C ≡ row → SeenAhead P C (mark_at old) o (P + C) end → Back old row end
  back_first {row} {end} whole seen =
      subst (λ (r : ℕ). Back old r end) whole (record { few = omega arith; done = marked_none old i (P + C) ahead; seen = seen })

  module _ {mid new : List ℕ} {row : ℕ} {beside truth next : Bool} (names : names_lower i o ≡ true) (s : Back mid row beside) (l : 0 < row)
      (is : truth ≡ step_on (mark_at mid) o (row - 1) beside) (sees : next ≡ watched_truth (mark_at mid) o truth (row - 1))
      (put : Marked mid new i (row - 1) (row - 1 + 1) (λ _. truth)) where
    on_row : (truth ≡ ahead (row - 1)) × SeenAhead P C (mark_at old) o (row - 1) (watched_truth (mark_at old) o truth (row - 1))
    on_row =
        ahead_next P C (mark_at old) o beside l s.few s.seen
        (is ∙ step_kept (mark_at mid) (mark_at old) i s.done.lower o names (row - 1) beside)

    pub back_next : Back new (row - 1) next
    back_next =
        let few = s.few in
        record {
          few = omega arith;
          done = down_next old i ahead l few s.done on_row.0 put;
          seen = subst⁻¹ (SeenAhead P C (mark_at old) o (row - 1)) (sees ∙ watched_kept (mark_at mid) (mark_at old) i s.done.lower o names truth (row - 1)) on_row.1;
        }

  pub back_all : {new : List ℕ} {row : ℕ} {beside : Bool} → Back new row beside → row ≤ 0 → Marked old new i 0 (P + C) ahead
  back_all {new} {row} s h = let none : row ≡ 0 = omega arith in subst (λ (m : ℕ). Marked old new i m (P + C) ahead) none s.done

  -- ---- they are its marks

  pub ahead_marked : {new : List ℕ} → beside_of o ≡ After → Marked old new i 0 (P + C) ahead → Marked old new i 0 (P + C) (operator_label P C (mark_at old) o)
  unfolding operator_label label_by
  ahead_marked e done = marked_same done (λ row _ _. sym (ap (λ (s : Beside). label_by P C (mark_at old) s o row) e))

  -- One that looks ahead closes.
  pub ahead_tried : {new : List ℕ} → beside_of o ≡ After → Marked old new i 0 (P + C) (operator_label P C (mark_at old) o) → OperatorTried P C old new i o true
  ahead_tried e done = record {
    outcome = ahead_closes P C (mark_at old) o e;
    long = done.long;
    lower = done.lower;
    made = λ _ row l. done.own row (omega arith) l;
  }

  -- One that looks back closes by what it sees of the last row.
  module _ {first : Bool} (e : beside_of o ≡ Before first) {new : List ℕ} (done : Marked old new i 0 (P + C) (running (mark_at old) o first)) where
    back_closing : 1 ≤ C → names_lower i o ≡ true → {end start step r : Bool} → end ≡ seen_back (mark_at old) o first (P + C) → start ≡ mark_at new i P
        → step ≡ step_on (mark_at new) o P end → r ≡ beq start step → r ≡ closes P C (mark_at old) o
    unfolding seen_back
    back_closing h_c names {end} {start} {step} d f g h =
        let one_more : P + C ≡ suc (P + C - 1) = omega arith in
        back_closes P C (mark_at old) o e (f ∙ done.own P (omega arith) (omega arith)) refl
        (turned P C (mark_at old) o start (running (mark_at old) o first (P + C - 1)) (d ∙ ap (seen_back (mark_at old) o first) one_more)
        (g ∙ step_kept (mark_at new) (mark_at old) i done.lower o names P end) h)

    pub back_tried : 1 ≤ C → names_lower i o ≡ true → {end start step r : Bool} → end ≡ seen_back (mark_at old) o first (P + C) → start ≡ mark_at new i P
        → step ≡ step_on (mark_at new) o P end → r ≡ beq start step → OperatorTried P C old new i o r
    unfolding operator_label label_by
    back_tried h_c names d f g h = record {
      outcome = back_closing h_c names d f g h;
      long = done.long;
      lower = done.lower;
      made = λ _ row l. done.own row (omega arith) l ∙ sym (ap (λ (s : Beside). label_by P C (mark_at old) s o row) e);
    }
