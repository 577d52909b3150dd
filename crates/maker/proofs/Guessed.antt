-- A guess that the check accepts is the table: its marks are the marks made, since an accepted table is unique but for its witnesses,
-- and these are the lowest by the marks. Assumes nothing.
use Rattle.std.specs.Prelude.{Result, Ok, Err}
use Rattle.refusal.specs.declared.Refusal.{Refusal}
use Prim.Native.Nat.{ℕ, zero, suc, ◌+◌, ◌*◌, ◌-◌, ◌≤◌, ◌<◌}
use native.Mathlib.Decide.{dec_lt}
use native.Mathlib.Omega.{arith}
use mathlib.Core.Path.{◌≡◌, refl, sym, ap, ap₂, ◌∙◌, subst, subst⁻¹}
use mathlib.Core.List.{List}
use mathlib.Core.Bool.{Bool}
use mathlib.Core.Logic.{inl, inr, by_cases}
use lib.Dec.{eqb}
use lib.ListN.{length, get_or}
use Rattle.cltlb.specs.Views.{view_of}
use Rattle.cltlb.specs.declared.Part.{Part}
use Rattle.cltlb.specs.declared.View.{View}
use Rattle.fields.specs.LittleEndian.{bytes_of}
use Rattle.refusal.specs.Outcome.{Outcome, unrefused}
use Rattle.rule.specs.Layout.{part_count, channel_count}
use Rattle.rule.specs.Take.{take_of, views_of}
use Rattle.plan.specs.Layout.{cycle_rows, rows}
use Rattle.plan.specs.declared.sizes.Sizes.{Sizes}
use Rattle.plan.specs.inner.Sizes.{all_rows}
use Rattle.plan.proofs.Fits.{rows_are}
use Rattle.inputs.specs.Outcome.{inputs_outcome}
use Rattle.inputs.specs.inner.Read.{Ready}
use Rattle.inputs.proofs.Ways.{both_ready}
use Rattle.inputs.proofs.Parts.{all_fit, taken_same}
use Rattle.table.specs.Layout.{mark_byte, marked}
use Rattle.table.specs.Bytes.{byte_of}
use Rattle.table.specs.inner.Tables.{Sized}
use Rattle.table.specs.inner.Stored.{Stored}
use Rattle.table.proofs.Places.{cell}
use Rattle.table.proofs.Refused.{cleared_marks}
use Rattle.marks.proofs.Accepted.{accepted_unique}
use Rattle.marks.proofs.MarkNames.{cleared_sized}
use Rattle.marks.proofs.PartsChecked.{own_cycle}
use Rattle.labelling.specs.Labels.{lowest_witness, made_mark, made_witness, made_table}
use Rattle.labelling.proofs.SameMarks.{SameBelow, witness_same}
use Rattle.labelling.proofs.Made.{agree_witness, made_accepted}
use Rattle.labelling.proofs.Guessing.{as_long}
use Rattle.acceptance.specs.Check.{mark_of, witness_at, parts_outcome, check_outcome, check_of}
use Rattle.acceptance.specs.Promise.{Cleared}
use Rattle.acceptance.proofs.Promised.{accepted_clear, all_clear}
use Rattle.maker.specs.Make.{closings_outcome, make_of, bytes_after}
use Rattle.maker.specs.Promise.{NoneAccepted}
use Rattle.maker.specs.inner.Parts.{AgreeOn, MadeBelow}
use Rattle.maker.specs.inner.Guesses.{Witnessed, Guessed}
use Rattle.maker.proofs.Promised.{some_cycle, fits, all_closed, none_accepted}
use Rattle.maker.proofs.InMaking.{mark_there, witness_there}
use Rattle.maker.proofs.Turns.{table_left, made_left}

-- ---- bytes

-- a byte that is a mark is the byte of that mark
byte_is : (x : ℕ) → x ≤ 1 → x ≡ byte_of (eqb x 1)
byte_is zero h = refl
byte_is (suc zero) h = refl
byte_is (suc (suc x)) h = absurd (omega arith)

-- Two byte strings that agree so far, and on so many more.
agree_on : (x y : List ℕ) (low at count : ℕ) → AgreeOn x y low at → ((k : ℕ) → k < count → get_or x (at + k) 0 ≡ get_or y (at + k) 0) → AgreeOn x y low (at + count)
agree_on x y low at count agree more k l q =
    by_cases (dec_lt k at) (λ s. agree k l s)
    (λ s. let place : at + (k - at) ≡ k = omega arith in subst (λ (j : ℕ). get_or x j 0 ≡ get_or y j 0) place (more (k - at) (omega arith)))

-- Where they agree on the marks, they have the same marks.
same_marks : (x y : List ℕ) (n w : ℕ) → AgreeOn x y 4 (4 + n * w) → (i row : ℕ) → i < n → row < w → marked w x i row ≡ marked w y i row
unfolding marked mark_byte
same_marks x y n w agree i row l q = ap (λ (b : ℕ). eqb b 1) (agree (4 + (i * w + row)) (omega arith) (omega (arith, cell n w i row l q)))

-- ---- the witnesses, one part after another

pub witnessed_none : {rule plan table : List ℕ} {n w : ℕ} → Witnessed rule plan table table n w 0
witnessed_none = record { long = refl; kept = λ k l q. refl; lowest = λ a k l q. absurd (omega arith) }

module _ (rule plan : List ℕ) {n : ℕ} {z : Sizes} (ready : Ready rule plan n z) where
  -- what is said with the rule's own parts and the plan's own rows holds with those that were read
  as_read : (F : ℕ → ℕ → Type 0) → F (part_count rule) (rows plan) → F n (all_rows z)
  as_read F h = subst⁻¹ (λ (m : ℕ). F m (all_rows z)) ready.parts (subst (F (part_count rule)) (rows_are ready.fits) h)

  module _ (i : ℕ) (low : i < n) {t : Result Part Refusal} (e : t ≡ take_of rule i) {part : Part} (f : t ≡ Ok part) {p : View} (g : p ≡ view_of part)
      {old mid : List ℕ} (so_far : Witnessed rule plan old mid n (all_rows z) i) where
    own_witness : {x : ℕ} → x ≡ lowest_witness plan (marked (all_rows z) mid) p i → x ≡ lowest_witness plan (marked (all_rows z) old) (views_of rule i) i
    own_witness d =
        d ∙ ap (λ (q : View). lowest_witness plan (marked (all_rows z) mid) q i) (sym (taken_same rule plan ready i low e f g))
        ∙ subst (λ (w : ℕ). AgreeOn mid old 0 (4 + n * w) → lowest_witness plan (marked w mid) (views_of rule i) i ≡ lowest_witness plan (marked w old) (views_of rule i) i) (rows_are ready.fits)
        (λ kept. witness_same plan (own_cycle ready.fits) (marked (rows plan) mid) (marked (rows plan) old) i
        (λ a l row q. same_marks mid old n (rows plan) (λ k _ h. kept k (omega arith) h) a row (omega arith) q) (channel_count rule) (views_of rule i) (all_fit rule plan ready i low)) so_far.kept

    pub witnessed_next : {new : List ℕ} {x : ℕ} → x ≡ lowest_witness plan (marked (all_rows z) mid) p i → Stored mid new (4 + n * all_rows z + 2 * i) 0 2 (λ k. get_or (bytes_of 2 x) k 0)
        → Witnessed rule plan old new n (all_rows z) (i + 1)
    witnessed_next {new} {x} d done = record {
      long = done.long ∙ so_far.long;
      kept = λ k l q. done.outside k (inl (omega arith)) ∙ so_far.kept k l q;
      lowest = λ a k l q.
          by_cases (dec_lt a i)
          (λ s. done.outside (4 + n * all_rows z + 2 * a + k) (inl (omega arith)) ∙ so_far.lowest a k s q)
          (λ s. let same : a ≡ i = omega arith in
          subst⁻¹ (λ (j : ℕ). get_or new (4 + n * all_rows z + 2 * j + k) 0 ≡ get_or (bytes_of 2 (lowest_witness plan (marked (all_rows z) old) (views_of rule j) j)) k 0) same
          (done.inside k (omega arith) q ∙ ap (λ (y : ℕ). get_or (bytes_of 2 y) k 0) (own_witness d)));
    }

pub witnessed_all : {rule plan old new : List ℕ} {n w i : ℕ} → i ≤ n → n ≤ i → Witnessed rule plan old new n w i → Witnessed rule plan old new n w n
witnessed_all {rule} {plan} {old} {new} {n} {w} {i} few all done = let same : i ≡ n = omega arith in subst (Witnessed rule plan old new n w) same done

pub witnessed_sized : {rule plan old new : List ℕ} {n w i : ℕ} → Witnessed rule plan old new n w i → Sized old n w → Sized new n w
witnessed_sized done sized = as_long done.long sized

-- ---- a table that is accepted

module _ (rule plan : List ℕ) (e : inputs_outcome rule plan ≡ unrefused) where
  abbrev n : ℕ
  n = part_count rule

  abbrev w : ℕ
  w = rows plan

  abbrev table : List ℕ
  table = made_table (views_of rule) plan (part_count rule)

  h_c : 1 ≤ cycle_rows plan
  h_c = some_cycle rule plan e

  module _ (new : List ℕ) (v : Bool) (a : check_of rule plan new ≡ Ok v) where
    -- every part closes,
    pub accepted_closed : closings_outcome rule plan ≡ unrefused
    unfolding NoneAccepted
    accepted_closed = go (closings_outcome rule plan) refl
      where
        go : (o : Outcome) → closings_outcome rule plan ≡ o → closings_outcome rule plan ≡ unrefused
        go (Ok _) c = c
        go (Err q) c = absurd (none_accepted rule plan e q c new v a)

    clears : Cleared rule plan new × (parts_outcome rule plan new ≡ unrefused)
    unfolding check_of
    clears = all_clear rule plan new (accepted_clear rule plan new (check_outcome rule plan new) v a).0

    -- its marks are the marks made,
    marks_made : (i row : ℕ) → i < part_count rule → row < rows plan → marked (rows plan) new i row ≡ made_mark (views_of rule) plan i row
    unfolding parts_outcome mark_of witness_at
    marks_made =
        accepted_unique plan h_c (views_of rule) (channel_count rule) n (fits rule plan e)
        (mark_of rule plan new) (made_mark (views_of rule) plan) (witness_at rule plan new) (made_witness (views_of rule) plan) clears.1
        (made_accepted plan h_c (views_of rule) (channel_count rule) n (fits rule plan e) (made_mark (views_of rule) plan) (λ i l row q. refl)
        (all_closed rule plan e accepted_closed) (made_witness (views_of rule) plan) (λ i l. refl))

    module _ (old mid : List ℕ) (sized : Sized mid (part_count rule) (rows plan)) (after : AgreeOn mid new 4 (4 + part_count rule * rows plan)) (done : Witnessed rule plan old mid (part_count rule) (rows plan) (part_count rule)) where
      mid_made : (i row : ℕ) → i < part_count rule → row < rows plan → marked (rows plan) mid i row ≡ made_mark (views_of rule) plan i row
      mid_made i row l q = same_marks mid new n w after i row l q ∙ marks_made i row l q

      old_made : SameBelow plan (made_mark (views_of rule) plan) (marked (rows plan) old) (part_count rule)
      old_made i l row q = sym (sym (same_marks mid old n w (λ k _ h. done.kept k (omega arith) h) i row l q) ∙ mid_made i row l q)

      mark_byte_lem : (i row : ℕ) → i < part_count rule → row < rows plan → get_or mid (4 + (i * rows plan + row)) 0 ≡ get_or table (4 + (i * rows plan + row)) 0
      unfolding marked mark_byte
      mark_byte_lem i row l q =
          let inside = cell n w i row l q in
          let same = after (4 + (i * rows plan + row)) (omega arith) (omega arith) in
          let low = (cleared_marks n w new clears.0.table_clear (cleared_sized n w new sized.few_parts sized.few_rows clears.0.table_clear)).low (i * rows plan + row) inside in
          byte_is (get_or mid (4 + (i * rows plan + row)) 0) (subst⁻¹ (λ (b : ℕ). b ≤ 1) same low)
          ∙ ap byte_of (mid_made i row l q)
          ∙ sym (mark_there plan h_c (views_of rule) (channel_count rule) n (fits rule plan e) i row l q)

      marks_agree : (i : ℕ) → i ≤ part_count rule → AgreeOn mid table 4 (4 + i * rows plan)
      marks_agree zero h = λ k l q. absurd (omega arith)
      marks_agree (suc i) h =
          subst (AgreeOn mid table 4) more
          (agree_on mid table 4 (4 + i * w) w (marks_agree i (omega arith)) (λ row q.
          subst (λ (j : ℕ). get_or mid j 0 ≡ get_or table j 0) (place row) (mark_byte_lem i row (omega arith) q)))
        where
          more : 4 + i * rows plan + rows plan ≡ 4 + suc i * rows plan
          more = omega arith

          place : (row : ℕ) → 4 + (i * rows plan + row) ≡ 4 + i * rows plan + row
          place row = omega arith

      witnesses_agree : (i : ℕ) → i ≤ part_count rule → AgreeOn mid table (4 + part_count rule * rows plan) (4 + part_count rule * rows plan + 2 * i)
      witnesses_agree zero h = λ k l q. absurd (omega arith)
      witnesses_agree (suc i) h =
          let l : i < part_count rule = omega arith in
          subst (AgreeOn mid table (4 + n * w)) more
          (agree_on mid table (4 + n * w) (4 + n * w + 2 * i) 2 (witnesses_agree i (omega arith)) (λ k q.
          done.lowest i k l q
          ∙ ap (λ (x : ℕ). get_or (bytes_of 2 x) k 0) (sym (agree_witness plan h_c (views_of rule) (channel_count rule) n (fits rule plan e) (marked (rows plan) old) old_made i l))
          ∙ sym (witness_there plan h_c (views_of rule) (channel_count rule) n (fits rule plan e) i k l q)))
        where
          more : 4 + part_count rule * rows plan + 2 * i + 2 ≡ 4 + part_count rule * rows plan + 2 * suc i
          more = omega arith

      -- and where its witnesses are the lowest by them, all parts are made.
      pub guess_made : MadeBelow rule plan mid (part_count rule) (rows plan) (part_count rule)
      guess_made = record { sized = sized; marks = marks_agree n (omega arith); witnesses = witnesses_agree n (omega arith) }

-- ---- a guess

module _ (rule plan : List ℕ) {n : ℕ} {z : Sizes} (ready : Ready rule plan n z) where
  -- Marks, then the lowest witnesses by them, then the sizes: where it is accepted, it is the table.
  pub guess_right : (old mid third new : List ℕ) → Witnessed rule plan old mid n (all_rows z) n → Sized old n (all_rows z)
      → Stored mid third 0 0 2 (λ k. get_or (bytes_of 2 n) k 0) → Stored third new 2 0 2 (λ k. get_or (bytes_of 2 (all_rows z)) k 0)
      → (v : Bool) → check_of rule plan new ≡ Ok v → new ≡ made_table (views_of rule) plan n
  guess_right old mid third new done sized first second v a =
      table_left rule plan ready old sized.whole mid third new
      (as_read rule plan ready (λ n w. Sized mid n w → Witnessed rule plan old mid n w n → MadeBelow rule plan mid n w n)
      (λ s d. guess_made rule plan (both_ready rule plan ready) new v a old mid s (λ k l q. sym (second.outside k (inr (omega arith)) ∙ first.outside k (inr (omega arith)))) d)
      (witnessed_sized done sized) done)
      first second

  -- The answer then, and the bytes left.
  pub guess_left : (before : List ℕ) → length before ≡ 4 + n * all_rows z + 2 * n → {old new : List ℕ} {answer : Result Bool Refusal} → Guessed rule plan old new n answer
      → {v : Bool} → answer ≡ Ok v → (Ok v ≡ make_of rule plan before) × (new ≡ bytes_after rule plan before)
  unfolding check_of mark_of
  guess_left before long {old} {new} guessed {v} a =
      let accepted = sym guessed.is_check ∙ a in
      made_left rule plan ready before long (guessed.right v a) refl (accepted_closed rule plan (both_ready rule plan ready) new v accepted)
      (sym (accepted_clear rule plan new (check_outcome rule plan new) v accepted).1
      ∙ ap₂ (λ (m w : ℕ). marked w new (m - 1) 0) (sym ready.parts) (rows_are ready.fits))
