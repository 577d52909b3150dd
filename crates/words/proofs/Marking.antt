-- Marks written: one, by its word; and row after row, upward or downward. Assumes nothing.
use Prim.Native.Nat.{ℕ, ◌+◌, ◌-◌, ◌≤◌, ◌<◌}
use native.Mathlib.Decide.{dec_lt}
use native.Mathlib.Omega.{arith}
use mathlib.Core.Path.{◌≡◌, refl, sym, ap, ◌∙◌, subst, subst⁻¹}
use mathlib.Core.Bool.{Bool}
use mathlib.Core.List.{List}
use mathlib.Core.Logic.{◌⊎◌, inl, inr, ⊎_elim, by_cases}
use Rattle.words.specs.inner.Words.{word_on, bit_of, with_bit, mark_at}
use Rattle.words.specs.inner.Written.{WordPut, RowsRepeated, Marked}
use Rattle.words.proofs.SetBits.{bit_set}

-- One mark is written by its word.
module _ {old new : List ℕ} (part row : ℕ) (mark : Bool) {word put : ℕ} (was : word ≡ word_on old row) (set : put ≡ with_bit word part mark) (done : WordPut old new row put) where
  now_there : word_on new row ≡ with_bit (word_on old row) part mark
  now_there = done.there ∙ set ∙ ap (λ (x : ℕ). with_bit x part mark) was

  on_row : (r : ℕ) → r ≡ row → (a : ℕ) → a < part → mark_at new a r ≡ mark_at old a r
  unfolding mark_at
  on_row r e a l =
      subst⁻¹ (λ (q : ℕ). bit_of (word_on new q) a ≡ bit_of (word_on old q) a) e
      (ap (λ (x : ℕ). bit_of x a) now_there ∙ (bit_set (word_on old row) part mark).1 a l)

  elsewhere : (r : ℕ) → (r < row) ⊎ (row < r) → (a : ℕ) → mark_at new a r ≡ mark_at old a r
  unfolding mark_at
  elsewhere r h a = ap (λ (x : ℕ). bit_of x a) (done.others r h)

  pub mark_put : Marked old new part row (row + 1) (λ _. mark)
  unfolding mark_at
  mark_put = record {
    long = done.long;
    own = λ r h l. let same : r ≡ row = omega arith in
        subst⁻¹ (λ (q : ℕ). bit_of (word_on new q) part ≡ mark) same (ap (λ (x : ℕ). bit_of x part) now_there ∙ (bit_set (word_on old row) part mark).0);
    others = λ r h. done.others r (⊎_elim inl (λ (a : row + 1 ≤ r). inr (omega arith)) h);
    lower = λ a l r. by_cases (dec_lt r row) (λ s. elsewhere r (inl s) a) (λ s.
        by_cases (dec_lt row r) (λ t. elsewhere r (inr t) a) (λ t. on_row r (omega arith) a l));
  }

-- No mark is written.
pub marked_none : (old : List ℕ) (part low : ℕ) (mark : ℕ → Bool) → Marked old old part low low mark
marked_none old part low mark = record { long = refl; own = λ r h l. absurd (omega arith); others = λ r h. refl; lower = λ a l r. refl }

-- On the other rows the marks of every part are the old ones.
pub marked_others : {old new : List ℕ} {part low high : ℕ} {mark : ℕ → Bool} → Marked old new part low high mark
    → (a row : ℕ) → (row < low) ⊎ (high ≤ row) → mark_at new a row ≡ mark_at old a row
unfolding mark_at
marked_others m a row h = ap (λ (x : ℕ). bit_of x a) (m.others row h)

-- The same marks said in another way.
pub marked_same : {old new : List ℕ} {part low high : ℕ} {f g : ℕ → Bool} → Marked old new part low high f
    → ((row : ℕ) → low ≤ row → row < high → f row ≡ g row) → Marked old new part low high g
marked_same m same = record { long = m.long; own = λ r h l. m.own r h l ∙ same r h l; others = m.others; lower = m.lower }

module _ {old mid new : List ℕ} {part low high : ℕ} {mark : ℕ → Bool} where
  -- Those of the rows above a row,
  pub marked_up : {at : ℕ} {f : ℕ → Bool} → low ≤ at → at ≤ high → Marked old mid part low at mark → Marked mid new part at high f
      → ((row : ℕ) → at ≤ row → row < high → f row ≡ mark row) → Marked old new part low high mark
  marked_up {at} p q v w same = record {
    long = w.long ∙ v.long;
    own = λ r h l. by_cases (dec_lt r at) (λ s. marked_others w part r (inl s) ∙ v.own r h s) (λ s. w.own r (omega arith) l ∙ same r (omega arith) l);
    others = λ r h. w.others r (⊎_elim (λ (a : r < low). inl (omega arith)) inr h) ∙ v.others r (⊎_elim inl (λ (a : high ≤ r). inr (omega arith)) h);
    lower = λ a l r. w.lower a l r ∙ v.lower a l r;
  }

  -- and of those below it.
  pub marked_down : {at : ℕ} {f : ℕ → Bool} → low ≤ at → at ≤ high → Marked old mid part at high mark → Marked mid new part low at f
      → ((row : ℕ) → low ≤ row → row < at → f row ≡ mark row) → Marked old new part low high mark
  marked_down {at} p q v w same = record {
    long = w.long ∙ v.long;
    own = λ r h l. by_cases (dec_lt r at) (λ s. w.own r h s ∙ same r h s) (λ s. marked_others w part r (inr (omega arith)) ∙ v.own r (omega arith) l);
    others = λ r h. w.others r (⊎_elim inl (λ (a : high ≤ r). inr (omega arith)) h) ∙ v.others r (⊎_elim (λ (a : r < low). inl (omega arith)) inr h);
    lower = λ a l r. w.lower a l r ∙ v.lower a l r;
  }

-- ---- row after row

module _ (old : List ℕ) (part : ℕ) (mark : ℕ → Bool) where
  -- upward: the rows below `row` are marked, of `count`
  abbrev pub Upward : ℕ → List ℕ → ℕ → Type 0
  Upward count new row = (row ≤ count) × Marked old new part 0 row mark

  pub upward_none : (count : ℕ) → Upward count old 0
  upward_none count = (omega arith, marked_none old part 0 mark)

  pub upward_next : {mid new : List ℕ} {count row : ℕ} → Upward count mid row → row < count → {b : Bool} → b ≡ mark row
      → Marked mid new part row (row + 1) (λ _. b) → Upward count new (row + 1)
  upward_next {row = row} s l e put =
      (omega arith, marked_up (omega arith) (omega arith) s.1 put (λ r h q. let same : row ≡ r = omega arith in e ∙ ap mark same))

  pub upward_all : {new : List ℕ} {count row : ℕ} → Upward count new row → count ≤ row → Marked old new part 0 count mark
  upward_all {new} {count} {row} s h =
      let l = s.0 in
      let same : row ≡ count = omega arith in
      subst (λ (m : ℕ). Marked old new part 0 m mark) same s.1

  -- downward: the rows from `row` to below `count` are marked
  pub down_next : {mid new : List ℕ} {count row : ℕ} → 0 < row → row ≤ count → Marked old mid part row count mark → {b : Bool} → b ≡ mark (row - 1)
      → Marked mid new part (row - 1) (row - 1 + 1) (λ _. b) → Marked old new part (row - 1) count mark
  down_next {mid} {new} {row = row} l few s {b} e put =
      let again : row - 1 + 1 ≡ row = omega arith in
      marked_down (omega arith) few s (subst (λ (m : ℕ). Marked mid new part (row - 1) m (λ _. b)) again put)
      (λ r h q. let same : row - 1 ≡ r = omega arith in e ∙ ap mark same)

-- ---- each that of the row a cycle before it

-- the rows below `at` are repeated; there may be none, where `end` is below `from`
abbrev pub Repeating : List ℕ → ℕ → ℕ → ℕ → List ℕ → ℕ → Type 0
Repeating old cycle from end new at = (from ≤ at) × (at ≤ from + (end - from)) × RowsRepeated old new cycle from at

pub rows_none : (old : List ℕ) (cycle from end : ℕ) → Repeating old cycle from end old from
rows_none old cycle from end = (omega arith, omega arith, record { long = refl; kept = λ row l. refl; behind = λ row l. refl; again = λ row h l. absurd (omega arith) })

pub rows_all : {old new : List ℕ} {cycle from end at : ℕ} → Repeating old cycle from end new at → end ≤ at → RowsRepeated old new cycle from end
rows_all {from = from} s h =
    let few = s.1 in
    record {
      long = s.2.long;
      kept = s.2.kept;
      behind = λ row p. by_cases (dec_lt row from) (s.2.kept row) (λ q. s.2.behind row (omega arith));
      again = λ row p q. s.2.again row p (omega arith);
    }

-- the marks of a part on them are
abbrev pub MarksRepeating : List ℕ → ℕ → ℕ → ℕ → ℕ → List ℕ → ℕ → Type 0
MarksRepeating old part cycle from end new at = (from ≤ at) × (at ≤ end) × Marked old new part from at (λ row. mark_at new part (row - cycle))

pub marks_none : (old : List ℕ) (part cycle from end : ℕ) → from ≤ end → MarksRepeating old part cycle from end old from
marks_none old part cycle from end h = (omega arith, h, marked_none old part from (λ row. mark_at old part (row - cycle)))

pub marks_all : {old new : List ℕ} {part : ℕ} (cycle : ℕ) {from end at : ℕ} → MarksRepeating old part cycle from end new at → end ≤ at
    → Marked old new part from end (λ row. mark_at new part (row - cycle))
marks_all {old} {new} {part} cycle {from} {end} {at} s h =
    let few = s.1 in
    let same : at ≡ end = omega arith in
    subst (λ (m : ℕ). Marked old new part from m (λ row. mark_at new part (row - cycle))) same s.2

module _ {old mid new : List ℕ} {cycle from end at : ℕ} (some_cycle : 1 ≤ cycle) (room : cycle ≤ from) where
  pub rows_next : Repeating old cycle from end mid at → at < end → {word : ℕ} → word ≡ word_on mid (at - cycle) → WordPut mid new at word
      → Repeating old cycle from end new (at + 1)
  rows_next s l is w =
      let h = s.0 in (
        omega arith,
        omega arith,
        record {
          long = w.long ∙ s.2.long;
          kept = λ row p. w.others row (inl (omega arith)) ∙ s.2.kept row p;
          behind = λ row p. w.others row (inr (omega arith)) ∙ s.2.behind row (omega arith);
          again = λ row p q. by_cases (dec_lt row at)
              (λ t. w.others row (inl t) ∙ s.2.again row p t ∙ sym (w.others (row - cycle) (inl (omega arith))))
              (λ t. let same : at ≡ row = omega arith in subst (λ (r : ℕ). word_on new r ≡ word_on new (r - cycle)) same
              (w.there ∙ is ∙ sym (w.others (at - cycle) (inl (omega arith)))));
        },
      )

  pub marks_next : {part : ℕ} → MarksRepeating old part cycle from end mid at → at < end → {mark : Bool} → mark ≡ mark_at mid part (at - cycle)
      → Marked mid new part at (at + 1) (λ _. mark) → MarksRepeating old part cycle from end new (at + 1)
  marks_next {part} s l {mark} is w =
      let h = s.0 in (
        omega arith,
        omega arith,
        marked_up h (omega arith) (marked_same s.2 (λ row p q. sym (marked_others w part (row - cycle) (inl (omega arith))))) w
            (λ row p q. let same : at ≡ row = omega arith in subst (λ (r : ℕ). mark ≡ mark_at new part (r - cycle)) same
            (is ∙ sym (marked_others w part (at - cycle) (inl (omega arith))))),
      )

-- So are the marks of every part.
module _ {old new : List ℕ} {cycle from end : ℕ} (s : RowsRepeated old new cycle from end) (a row : ℕ) where
  pub repeated_kept : row < from → mark_at new a row ≡ mark_at old a row
  unfolding mark_at
  repeated_kept l = ap (λ (x : ℕ). bit_of x a) (s.kept row l)

  pub repeated_again : from ≤ row → row < end → mark_at new a row ≡ mark_at new a (row - cycle)
  unfolding mark_at
  repeated_again h l = ap (λ (x : ℕ). bit_of x a) (s.again row h l)
