-- What holds while a loop fills places of a table, and that it ends with all of them filled. Assumes nothing.
use Prim.Native.Nat.{ℕ, ◌+◌, ◌-◌, ◌≤◌, ◌<◌}
use native.Mathlib.Omega.{arith}
use mathlib.Core.Path.{◌≡◌, ap, ap₂, ◌∙◌, subst, subst⁻¹}
use mathlib.Core.Bool.{Bool, false, ◌&&◌, ◌||◌}
use mathlib.Core.List.{List}
use lib.ListN.{length, set}
use Rattle.table.specs.Bytes.{byte_of}
use Rattle.table.specs.inner.Tables.{flipped}
use Rattle.table.specs.inner.Stored.{Stored}
use Rattle.table.specs.inner.Sweeps.{carried, backed, marks_from}
use Rattle.table.proofs.Carries.{step_at, carried_to, carried_first, carried_here, carried_next, backed_last, backed_before}
use Rattle.table.proofs.Stores.{stored_none, stored_up, stored_down, still_mark}

-- Each place by itself, going up.
module _ (old : List ℕ) (m count : ℕ) (bytes : ℕ → ℕ) where
  abbrev pub Filled : List ℕ → ℕ → Type 0
  Filled new k = (k ≤ count) × Stored old new m 0 k bytes

  pub filled_first : Filled old 0
  filled_first = (omega arith, stored_none old m bytes 0)

  pub filled_next : {new : List ℕ} {k x place : ℕ} → place ≡ m + k → m + count ≤ length old → k < count → Filled new k → x ≡ bytes k → Filled (set new place x) (k + 1)
  filled_next {new} {k} {x} here room l f e = (
    omega arith,
    subst⁻¹ (λ (i : ℕ). Stored old (set new i x) m 0 (k + 1) bytes) here (stored_up old m bytes f.1 (omega arith) (omega arith) e),
  )

  pub filled_end : {new : List ℕ} {k : ℕ} → count ≤ k → Filled new k → Stored old new m 0 count bytes
  filled_end {new} {k} h f = let same : k ≡ count = let l = f.0 in omega arith in subst (λ (i : ℕ). Stored old new m 0 i bytes) same f.1

-- Each place by the one before it or after it.
module _ (old : List ℕ) (m a b count : ℕ) (opposite : Bool) where
  abbrev pub step_in : List ℕ → ℕ → Bool → Bool
  step_in table = step_at (marks_from opposite table a) (marks_from opposite table b)

  -- what is read lies before what is written
  step_still : {new : List ℕ} {low high : ℕ} {bytes : ℕ → ℕ} → a + count ≤ m → b + count ≤ m → Stored old new m low high bytes → (k : ℕ) (mark : Bool) → k < count → step_in new k mark ≡ step_in old k mark
  step_still {bytes = bytes} before_a before_b w k mark l =
      ap₂ (λ (y x : Bool). y || (x && mark)) (still_mark old m bytes w opposite b k (omega arith)) (still_mark old m bytes w opposite a k (omega arith))

  abbrev pub mark_on : ℕ → Bool
  mark_on = carried (marks_from opposite old a) (marks_from opposite old b)

  abbrev pub On : List ℕ → Bool → ℕ → Type 0
  On new mark k = (k ≤ count) × (mark ≡ carried_to (marks_from opposite old a) (marks_from opposite old b) k) × Stored old new m 0 k (λ j. byte_of (flipped opposite (mark_on j)))

  pub on_first : On old false 0
  on_first = (omega arith, carried_first (marks_from opposite old a) (marks_from opposite old b), stored_none old m (λ j. byte_of (flipped opposite (mark_on j))) 0)

  pub on_next : {new : List ℕ} {mark next : Bool} {k x : ℕ} → m + count ≤ length old → a + count ≤ m → b + count ≤ m → k < count → On new mark k
      → next ≡ step_in new k mark → x ≡ byte_of (flipped opposite next) → On (set new (m + k) x) next (k + 1)
  on_next {mark = mark} {next} {k} room before_a before_b l f e d =
      let made : next ≡ mark_on k = e ∙ step_still before_a before_b f.2 k mark l ∙ carried_here (marks_from opposite old a) (marks_from opposite old b) k f.1 in (
        omega arith,
        carried_next (marks_from opposite old a) (marks_from opposite old b) k made,
        stored_up old m (λ j. byte_of (flipped opposite (mark_on j))) f.2 (omega arith) (omega arith) (d ∙ ap (λ (y : Bool). byte_of (flipped opposite y)) made),
      )

  pub on_end : {new : List ℕ} {mark : Bool} {k : ℕ} → count ≤ k → On new mark k → Stored old new m 0 count (λ j. byte_of (flipped opposite (mark_on j)))
  on_end h f = filled_end old m count (λ j. byte_of (flipped opposite (mark_on j))) h (f.0, f.2)

  module _ (end : Bool) where
    abbrev pub mark_back : ℕ → Bool
    mark_back k = backed (marks_from opposite old a) (marks_from opposite old b) end (count - k) k

    abbrev pub Back : List ℕ → Bool → ℕ → Type 0
    Back new mark k = (k ≤ count) × (mark ≡ mark_back k) × Stored old new m k count (λ j. byte_of (flipped opposite (mark_back j)))

    pub back_first : Back old end count
    back_first = (omega arith, backed_last (marks_from opposite old a) (marks_from opposite old b) end count, stored_none old m (λ j. byte_of (flipped opposite (mark_back j))) count)

    pub back_next : {new : List ℕ} {mark next : Bool} {k x : ℕ} → m + count ≤ length old → a + count ≤ m → b + count ≤ m → 0 < k → Back new mark k
        → next ≡ step_in new (k - 1) mark → x ≡ byte_of (flipped opposite next) → Back (set new (m + (k - 1)) x) next (k - 1)
    back_next {mark = mark} {next} {k} room before_a before_b l f e d =
        let few = f.0 in
        let made : next ≡ mark_back (k - 1) = e
        ∙ step_still before_a before_b f.2 (k - 1) mark (omega arith)
        ∙ backed_before (marks_from opposite old a) (marks_from opposite old b) end count k l few f.1 in (
          omega arith,
          made,
          stored_down old m (λ j. byte_of (flipped opposite (mark_back j))) f.2 l few room (d ∙ ap (λ (y : Bool). byte_of (flipped opposite y)) made),
        )

    pub back_end : {new : List ℕ} {mark : Bool} {k : ℕ} → k ≤ 0 → Back new mark k → Stored old new m 0 count (λ j. byte_of (flipped opposite (mark_back j)))
    back_end {new} {mark} {k} h f = let same : k ≡ 0 = omega arith in subst (λ (i : ℕ). Stored old new m i count (λ j. byte_of (flipped opposite (mark_back j)))) same f.2

-- Nothing is written, and only the last mark is kept.
module _ (table : List ℕ) (a b from count : ℕ) (opposite : Bool) where
  abbrev pub swept_back : ℕ → ℕ → Bool
  swept_back = backed (marks_from opposite table a) (marks_from opposite table b) false

  abbrev pub Swept : Bool → ℕ → Type 0
  Swept mark k = (from ≤ k) × (k ≤ from + count) × (mark ≡ swept_back (from + count - k) k)

  pub swept_first : Swept false (from + count)
  swept_first = (omega arith, omega arith, backed_last (marks_from opposite table a) (marks_from opposite table b) false (from + count))

  pub swept_next : {mark next : Bool} {k : ℕ} → from < k → Swept mark k → next ≡ step_at (marks_from opposite table a) (marks_from opposite table b) (k - 1) mark → Swept next (k - 1)
  swept_next {k = k} l f e = (
    omega arith,
    (let few = f.1 in omega arith),
    e ∙ backed_before (marks_from opposite table a) (marks_from opposite table b) false (from + count) k (omega arith) f.1 f.2,
  )

  pub swept_end : {mark : Bool} {k : ℕ} → k ≤ from → Swept mark k → mark ≡ swept_back count from
  swept_end {k = k} h f =
      let same : k ≡ from = let l = f.0 in omega arith in
      let all : from + count - k ≡ count = omega arith in
      f.2 ∙ ap₂ swept_back all same
