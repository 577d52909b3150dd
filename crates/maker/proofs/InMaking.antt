-- A table in the making, byte by byte: what one part adds to it, and when it is whole. Assumes nothing.
use mathlib.Core.Path.{◌≡◌, sym, ap, ◌∙◌, subst}
use mathlib.Core.Bool.{true}
use mathlib.Core.List.{List}
use mathlib.Core.Logic.{inl, inr, by_cases}
use Prim.Native.Nat.{ℕ, suc, ◌+◌, ◌*◌, ◌-◌, ◌≤◌, ◌<◌}
use native.Mathlib.Nat.{mul-le-mul_right}
use native.Mathlib.Decide.{dec_lt}
use native.Mathlib.Omega.{arith}
use lib.Dec.{eqb}
use lib.ListN.{length, get_or}
use lib.Seq.{ext_get_or}
use Rattle.fields.specs.LittleEndian.{bytes_of}
use Rattle.cltlb.specs.Fits.{view_fits}
use Rattle.cltlb.specs.declared.View.{View}
use Rattle.plan.specs.Layout.{cycle_rows, rows}
use Rattle.table.specs.Layout.{mark_byte, marked}
use Rattle.table.specs.Bytes.{byte_of}
use Rattle.table.specs.inner.Stored.{Stored}
use Rattle.table.proofs.TableBytes as bytes
use Rattle.table.proofs.Places.{part_cells}
use Rattle.labelling.specs.Labels.{label_of, lowest_witness, made_mark, made_witness, made_table}
use Rattle.labelling.proofs.SameMarks.{SameBelow, label_same, witness_same}
use Rattle.labelling.proofs.Made.{made_labelled}
use Rattle.maker.specs.inner.Parts.{AgreeOn}

-- What is written elsewhere leaves two byte strings agreeing.
module _ {old new : List ℕ} (other : List ℕ) (at low high : ℕ) {g : ℕ → ℕ} (done : Stored old new at 0 high g) where
  pub kept_before : (hi : ℕ) → hi ≤ at → AgreeOn old other low hi → AgreeOn new other low hi
  kept_before hi l agree k h q = done.outside k (inl (omega arith)) ∙ agree k h q

  pub kept_behind : (hi : ℕ) → at + high ≤ low → AgreeOn old other low hi → AgreeOn new other low hi
  kept_behind hi l agree k h q = done.outside k (inr (omega arith)) ∙ agree k h q

-- What is written at their end adds to it.
pub agree_more : (old new other : List ℕ) (low at count : ℕ) {g : ℕ → ℕ} → AgreeOn old other low at → Stored old new at 0 count g
    → ((k : ℕ) → k < count → g k ≡ get_or other (at + k) 0) → AgreeOn new other low (at + count)
agree_more old new other low at count {g} agree done h k l q =
    by_cases (dec_lt k at)
    (λ s. done.outside k (inl (omega arith)) ∙ agree k l s)
    (λ s. let place : at + (k - at) ≡ k = omega arith in
    subst (λ (j : ℕ). get_or new j 0 ≡ get_or other j 0) place (done.inside (k - at) (omega arith) (omega arith) ∙ h (k - at) (omega arith)))

module _ (plan : List ℕ) (h_c : 1 ≤ cycle_rows plan) (parts : ℕ → View) (v n : ℕ)
    (fits : (i : ℕ) → i < n → view_fits v i (parts i) ≡ true) where
  abbrev table : List ℕ
  table = made_table parts plan n

  abbrev w : ℕ
  w = rows plan

  -- ---- the bytes of the table

  pub mark_there : (i row : ℕ) → i < n → row < w → get_or table (4 + (i * w + row)) 0 ≡ byte_of (made_mark parts plan i row)
  unfolding made_table
  mark_there = bytes.table_byte n w (made_mark parts plan) (made_witness parts plan)

  pub witness_there : (i k : ℕ) → i < n → k < 2 → get_or table (4 + n * w + 2 * i + k) 0 ≡ get_or (bytes_of 2 (made_witness parts plan i)) k 0
  unfolding made_table
  witness_there = bytes.witness_byte n w (made_mark parts plan) (made_witness parts plan)

  -- ---- the marks of the parts below i are those of the table

  module _ (old : List ℕ) (i : ℕ) (few : i ≤ n) (marks : AgreeOn old table 4 (4 + i * w)) where
    pub agree_below : SameBelow plan (made_mark parts plan) (marked w old) i
    unfolding marked mark_byte
    agree_below a l row q =
        let below : (a + 1) * w ≤ i * w = mul-le-mul_right w (omega arith) in
        sym (ap (λ (x : ℕ). eqb x 1) (marks (4 + (a * w + row)) (omega arith) (omega arith) ∙ mark_there a row (omega arith) q)
        ∙ bytes.read_byte (made_mark parts plan a row))

  module _ (old mid : List ℕ) (i : ℕ) (l : i < n) (marks : AgreeOn old table 4 (4 + i * w))
      (done : Stored old mid (4 + i * w) 0 w (λ row. byte_of (label_of plan (marked w old) (parts i) row))) where
    own_label : (row : ℕ) → row < w → label_of plan (marked w old) (parts i) row ≡ made_mark parts plan i row
    own_label row q =
        sym (made_labelled plan h_c parts v n fits i l row q
        ∙ label_same plan h_c (made_mark parts plan) (marked w old) i (agree_below old i (omega arith) marks) v (parts i) (fits i l) row q)

    -- Once part i is labelled, its marks are too.
    pub marks_next : AgreeOn mid table 4 (4 + suc i * w)
    marks_next =
        subst (AgreeOn mid table 4) more
        (agree_more old mid table 4 (4 + i * w) w marks done (λ row q. ap byte_of (own_label row q) ∙ sym (mark_there i row l q) ∙ ap (λ (k : ℕ). get_or table k 0) (place row)))
      where
        more : 4 + i * w + w ≡ 4 + suc i * w
        more = omega arith

        place : (row : ℕ) → 4 + (i * w + row) ≡ 4 + i * w + row
        place row = omega arith

    -- The lowest witness by these marks is the table's.
    pub witness_is : {x : ℕ} → x ≡ lowest_witness plan (marked w mid) (parts i) i → x ≡ made_witness parts plan i
    unfolding made_witness
    witness_is e =
        e ∙ sym (witness_same plan h_c (made_mark parts plan) (marked w mid) i (agree_below mid (suc i) (omega arith) marks_next) v (parts i) (fits i l))

    pub witnesses_kept : (high : ℕ) → AgreeOn old table (4 + n * w) high → AgreeOn mid table (4 + n * w) high
    witnesses_kept high agree = let inside = part_cells n w i l in kept_behind table (4 + i * w) (4 + n * w) w done high (omega arith) agree

  module _ (mid new : List ℕ) (i : ℕ) (l : i < n) {x : ℕ} (e : x ≡ made_witness parts plan i)
      (done : Stored mid new (4 + n * w + 2 * i) 0 2 (λ k. get_or (bytes_of 2 x) k 0)) where
    -- and once its witness is written, so is that.
    pub witnesses_next : AgreeOn mid table (4 + n * w) (4 + n * w + 2 * i) → AgreeOn new table (4 + n * w) (4 + n * w + 2 * suc i)
    witnesses_next agree =
        subst (AgreeOn new table (4 + n * w)) more
        (agree_more mid new table (4 + n * w) (4 + n * w + 2 * i) 2 agree done (λ k q. ap (λ (x : ℕ). get_or (bytes_of 2 x) k 0) e ∙ sym (witness_there i k l q)))
      where
        more : 4 + n * w + 2 * i + 2 ≡ 4 + n * w + 2 * suc i
        more = omega arith

    pub marks_kept : AgreeOn mid table 4 (4 + suc i * w) → AgreeOn new table 4 (4 + suc i * w)
    marks_kept agree = let inside = part_cells n w i l in kept_before table (4 + n * w + 2 * i) 4 2 done (4 + suc i * w) (omega arith) agree

  -- ---- the sizes, last of all

  module _ (old mid new : List ℕ) (long : length old ≡ 4 + n * w + 2 * n)
      (first : Stored old mid 0 0 2 (λ k. get_or (bytes_of 2 n) k 0)) (second : Stored mid new 2 0 2 (λ k. get_or (bytes_of 2 w) k 0)) where
    sizes : AgreeOn new table 0 4
    unfolding made_table
    sizes =
        agree_more mid new table 0 2 2
        (agree_more old mid table 0 0 2 (λ k h q. absurd (omega arith)) first (λ k q. sym (ap (λ (j : ℕ). get_or table j 0) (none k) ∙ bytes.size_byte_parts n w (made_mark parts plan) (made_witness parts plan) k q)))
        second (λ k q. sym (bytes.size_byte_rows n w (made_mark parts plan) (made_witness parts plan) k q))
      where
        none : (k : ℕ) → 0 + k ≡ k
        none k = omega arith

    -- The buffer is the table.
    pub whole_table : AgreeOn old table 4 (4 + n * w) → AgreeOn old table (4 + n * w) (4 + n * w + 2 * n) → new ≡ table
    unfolding made_table
    whole_table marks witnesses =
        ext_get_or 0 new table (second.long ∙ first.long ∙ long ∙ sym (bytes.table_length n w (made_mark parts plan) (made_witness parts plan))) (λ k l.
        by_cases (dec_lt k 4) (λ s. sizes k (omega arith) s)
        (λ s. by_cases (dec_lt k (4 + n * w)) (λ t. behind (4 + n * w) marks k (omega arith) t)
        (λ t. behind (4 + n * w + 2 * n) (λ j h q. rest j (omega arith) h q) k (omega arith) (let a = second.long in let b = first.long in omega arith))))
      where
        behind : (high : ℕ) → ((j : ℕ) → 4 ≤ j → j < high → get_or old j 0 ≡ get_or table j 0) → (k : ℕ) → 4 ≤ k → k < high → get_or new k 0 ≡ get_or table k 0
        behind high agree = kept_behind table 2 4 2 second high (omega arith) (kept_behind table 0 4 2 first high (omega arith) agree)

        rest : (j : ℕ) → 0 ≤ j → 4 ≤ j → j < 4 + n * w + 2 * n → get_or old j 0 ≡ get_or table j 0
        rest j z h q = by_cases (dec_lt j (4 + n * w)) (λ t. marks j h t) (λ t. witnesses j (omega arith) q)
