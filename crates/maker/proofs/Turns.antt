-- The maker's turns as the code takes them: one part after another, then the sizes, or zero bytes. Assumes nothing.
use Rattle.std.specs.Prelude.{Result, Ok, Err}
use Prim.Native.Nat.{ℕ, suc, ◌+◌, ◌*◌, ◌-◌, ◌≤◌, ◌<◌}
use native.Mathlib.Numerals.{add-one}
use native.Mathlib.Omega.{arith}
use mathlib.Core.Path.{◌≡◌, sym, ap, ap₂, ◌∙◌, subst, subst⁻¹}
use mathlib.Core.List.{List, map}
use mathlib.Core.Bool.{Bool, true}
use lib.Dec.{eqb}
use lib.ListN.{length, get_or, length-map, get_or-map}
use lib.Seq.{ext_get_or}
use borrow.Author.Tests.{eq-eqb, ne_eqb}
use Rattle.fields.specs.LittleEndian.{bytes_of}
use Rattle.cltlb.specs.Views.{view_of}
use Rattle.cltlb.specs.declared.Part.{Part}
use Rattle.cltlb.specs.declared.View.{View}
use Rattle.refusal.specs.First.{◌or_else◌, unless, in_turn_from, in_turn}
use Rattle.refusal.specs.Report.{report_of}
use Rattle.refusal.specs.Outcome.{Outcome, unrefused}
use Rattle.refusal.specs.declared.Refusal.{Refusal}
use Rattle.refusal.specs.declared.Refusal.TheVariants.{BufferLength, NoTable}
use Rattle.refusal.proofs.First.{clear_refused, turn_first, turn_next, turn_end}
use Rattle.rule.specs.Layout.{part_count, channel_count}
use Rattle.rule.specs.Take.{take_of, views_of}
use Rattle.plan.specs.Layout.{cycle_rows, rows}
use Rattle.plan.specs.declared.sizes.Sizes.{Sizes}
use Rattle.plan.specs.inner.Sizes.{all_rows}
use Rattle.plan.proofs.Fits.{rows_are}
use Rattle.inputs.specs.Outcome.{inputs_outcome}
use Rattle.inputs.specs.inner.Read.{Ready}
use Rattle.inputs.proofs.Ways.{both_ready}
use Rattle.inputs.proofs.Parts.{few_there, last_there, all_fit, taken_same}
use Rattle.table.specs.Layout.{marked}
use Rattle.table.specs.Bytes.{byte_of, zeroed}
use Rattle.table.specs.inner.Tables.{most_bytes, Sized}
use Rattle.table.specs.inner.Stored.{Stored}
use Rattle.table.proofs.Places.{area}
use Rattle.marks.specs.Parts.{closing_outcome}
use Rattle.marks.proofs.PartsChecked.{own_cycle}
use Rattle.labelling.specs.Labels.{label_of, lowest_witness, made_mark, made_table}
use Rattle.labelling.specs.inner.Rows.{RowsLabelled}
use Rattle.labelling.proofs.SameMarks.{closing_same}
use Rattle.labelling.proofs.MadeTable.{table_same}
use Rattle.maker.specs.Make.{as_no_table, open_outcome, closings_outcome, lent_outcome, make_outcome, answered, make_of, left_by, bytes_after}
use Rattle.maker.specs.inner.Parts.{AgreeOn, MadeBelow, MadeTo}
use Rattle.maker.proofs.InMaking.{agree_below, marks_next, witness_is, witnesses_kept, witnesses_next, marks_kept, whole_table}

-- Zero bytes, as many as there are.
pub zeroed_same : (x y : List ℕ) → length x ≡ length y → zeroed x ≡ zeroed y
unfolding zeroed
zeroed_same x y e =
    ext_get_or 0 (map (λ _. 0) x) (map (λ _. 0) y) (length-map x (λ _. 0) ∙ e ∙ sym (length-map y (λ _. 0)))
    (λ k l. get_or-map (λ _. 0) x k 0 ∙ sym (get_or-map (λ _. 0) y k 0))

module _ (rule plan : List ℕ) {n : ℕ} {z : Sizes} (ready : Ready rule plan n z) where
  some_cycle : 1 ≤ cycle_rows plan
  some_cycle = own_cycle ready.fits

  -- what is said with the plan's own rows holds with the rows that were read
  with_rows : (F : ℕ → Type 0) → F (rows plan) → F (all_rows z)
  with_rows F h = subst F (rows_are ready.fits) h

  few_rows : rows plan ≤ 256
  few_rows = subst⁻¹ (λ (w : ℕ). w ≤ 256) (rows_are ready.fits) (few_there rule plan ready).1

  -- Before the first part.
  pub made_none : {table : List ℕ} → Sized table n (all_rows z) → MadeBelow rule plan table n (all_rows z) 0
  made_none sized = record { sized = sized; marks = λ k h q. absurd (omega arith); witnesses = λ k h q. absurd (omega arith) }

  -- ---- the turn of part i

  module _ (i : ℕ) (low : i < n) {t : Result Part Refusal} (e : t ≡ take_of rule i) {part : Part} (f : t ≡ Ok part) {p : View} (g : p ≡ view_of part)
      (old : List ℕ) (below : MadeBelow rule plan old n (all_rows z) i) where
    same : views_of rule i ≡ p
    same = taken_same rule plan ready i low e f g

    -- It closes by the marks in the buffer as it does by the marks made.
    closing_is : {r : Outcome} → r ≡ closing_outcome plan (marked (all_rows z) old) p i → as_no_table r ≡ open_outcome rule plan i
    unfolding open_outcome
    closing_is {r} d =
        ap as_no_table (d ∙ ap (λ (q : View). closing_outcome plan (marked (all_rows z) old) q i) (sym same)
        ∙ with_rows (λ w. AgreeOn old (made_table (views_of rule) plan n) 4 (4 + i * w)
        → closing_outcome plan (marked w old) (views_of rule i) i ≡ closing_outcome plan (made_mark (views_of rule) plan) (views_of rule i) i)
        (λ agree. sym (closing_same plan some_cycle (made_mark (views_of rule) plan) (marked (rows plan) old) i
        (agree_below plan some_cycle (views_of rule) (channel_count rule) n (all_fit rule plan ready) old i (omega arith) agree)
        (channel_count rule) (views_of rule i) (all_fit rule plan ready i low))) below.marks)

    pub part_open : {r : Outcome} → r ≡ closing_outcome plan (marked (all_rows z) old) p i → {q : Refusal} → r ≡ Err q
        → Err (NoTable (report_of q).part (report_of q).row) ≡ open_outcome rule plan i
    unfolding as_no_table
    part_open d h = sym (ap as_no_table h) ∙ closing_is d

    pub part_closed : {r : Outcome} → r ≡ closing_outcome plan (marked (all_rows z) old) p i → r ≡ unrefused → unrefused ≡ open_outcome rule plan i
    unfolding as_no_table
    part_closed d h = sym (ap as_no_table h) ∙ closing_is d

    -- What a part that does not close leaves behind it.
    pub left_open : {mid : List ℕ} {r : Outcome} → RowsLabelled old mid (all_rows z) i r (label_of plan (marked (all_rows z) old) p)
        → {q : Refusal} → MadeTo rule plan old mid n (all_rows z) (i + 1) (Err q)
    left_open labelled = record { long = labelled.rows_alone.1.long; made = λ h. absurd (clear_refused h) }

    -- And one that does, once its witness is written.
    pub left_made : (mid new : List ℕ) {r : Outcome} → RowsLabelled old mid (all_rows z) i r (label_of plan (marked (all_rows z) old) p) → r ≡ unrefused
        → {x : ℕ} → x ≡ lowest_witness plan (marked (all_rows z) mid) p i
        → Stored mid new (4 + n * all_rows z + 2 * i) 0 2 (λ k. get_or (bytes_of 2 x) k 0) → MadeTo rule plan old new n (all_rows z) (i + 1) unrefused
    left_made mid new labelled h {x} d done = record {
      long = done.long ∙ (labelled.made h).long;
      made = λ _. record {
        sized = record {
          few_parts = below.sized.few_parts;
          few_rows = below.sized.few_rows;
          whole = done.long ∙ (labelled.made h).long ∙ below.sized.whole;
        };
        marks = subst⁻¹ (λ (k : ℕ). AgreeOn new table 4 (4 + k * all_rows z)) (add-one i) all.0;
        witnesses = subst⁻¹ (λ (k : ℕ). AgreeOn new table (4 + n * all_rows z) (4 + n * all_rows z + 2 * k)) (add-one i) all.1;
      };
    }
      where
        table : List ℕ
        table = made_table (views_of rule) plan n

        all : AgreeOn new (made_table (views_of rule) plan n) 4 (4 + suc i * all_rows z)
            × AgreeOn new (made_table (views_of rule) plan n) (4 + n * all_rows z) (4 + n * all_rows z + 2 * suc i)
        all =
            with_rows (λ w. AgreeOn old (made_table (views_of rule) plan n) 4 (4 + i * w) → AgreeOn old (made_table (views_of rule) plan n) (4 + n * w) (4 + n * w + 2 * i)
            → Stored old mid (4 + i * w) 0 w (λ row. byte_of (label_of plan (marked w old) (views_of rule i) row)) → x ≡ lowest_witness plan (marked w mid) (views_of rule i) i
            → Stored mid new (4 + n * w + 2 * i) 0 2 (λ k. get_or (bytes_of 2 x) k 0)
            → AgreeOn new (made_table (views_of rule) plan n) 4 (4 + suc i * w) × AgreeOn new (made_table (views_of rule) plan n) (4 + n * w) (4 + n * w + 2 * suc i))
            (λ marks witnesses rows d done.
            let fits = all_fit rule plan ready in
            let own = witness_is plan some_cycle (views_of rule) (channel_count rule) n fits old mid i low marks rows d in (
              marks_kept plan some_cycle (views_of rule) (channel_count rule) n fits mid new i low own done
                  (marks_next plan some_cycle (views_of rule) (channel_count rule) n fits old mid i low marks rows),
              witnesses_next plan some_cycle (views_of rule) (channel_count rule) n fits mid new i low own done
                  (witnesses_kept plan some_cycle (views_of rule) (channel_count rule) n fits old mid i low marks rows (4 + n * rows' + 2 * i) witnesses),
            )) below.marks below.witnesses
            (subst⁻¹ (λ (q : View). Stored old mid (4 + i * all_rows z) 0 (all_rows z) (λ row. byte_of (label_of plan (marked (all_rows z) old) q row))) same (labelled.made h))
            (d ∙ ap (λ (q : View). lowest_witness plan (marked (all_rows z) mid) q i) (sym same)) done
          where
            rows' : ℕ
            rows' = rows plan

  -- ---- all parts in turn

  turns_all : in_turn (open_outcome rule plan) n ≡ closings_outcome rule plan
  unfolding closings_outcome
  turns_all = ap (in_turn (open_outcome rule plan)) ready.parts

  -- what the parts from i on have to say
  abbrev pub turns_from : ℕ → Outcome
  turns_from i = in_turn_from (open_outcome rule plan) i (n - i)

  pub turns_first : closings_outcome rule plan ≡ turns_from 0
  turns_first = sym turns_all ∙ turn_first (open_outcome rule plan) n

  module _ (i : ℕ) (so_far : closings_outcome rule plan ≡ turns_from i) where
    pub turns_next : i < n → {r : Outcome} → r ≡ open_outcome rule plan i → r ≡ unrefused → closings_outcome rule plan ≡ turns_from (i + 1)
    unfolding ◌or_else◌
    turns_next l d h =
        so_far ∙ turn_next (open_outcome rule plan) i n l ∙ ap (λ o. o or_else turns_from (i + 1)) (sym d ∙ h)

    pub turns_stop : i < n → {r : Outcome} → r ≡ open_outcome rule plan i → {q : Refusal} → r ≡ Err q → Err q ≡ closings_outcome rule plan
    unfolding ◌or_else◌
    turns_stop l d h =
        sym (so_far ∙ turn_next (open_outcome rule plan) i n l ∙ ap (λ o. o or_else turns_from (i + 1)) (sym d ∙ h))

    pub turns_end : n ≤ i → unrefused ≡ closings_outcome rule plan
    turns_end l = sym (so_far ∙ turn_end (open_outcome rule plan) i n l)

  -- ---- the whole

  module _ (before : List ℕ) where
    long_is : 4 + n * all_rows z + 2 * n ≡ 4 + part_count rule * rows plan + 2 * part_count rule
    long_is = ap₂ (λ (n w : ℕ). 4 + n * w + 2 * n) ready.parts (sym (rows_are ready.fits))

    -- a buffer of another length
    pub other_length : (length before ≡ 4 + n * all_rows z + 2 * n → ⊥) → (Err BufferLength ≡ make_of rule plan before) × (before ≡ bytes_after rule plan before)
    unfolding make_of make_outcome lent_outcome answered bytes_after left_by ◌or_else◌ unless
    other_length differs =
        let wrong = ne_eqb (length before) (4 + part_count rule * rows plan + 2 * part_count rule) (λ e. differs (e ∙ sym long_is)) in
        (simp (both_ready rule plan ready, wrong), simp (both_ready rule plan ready, wrong))

    module _ (long : length before ≡ 4 + n * all_rows z + 2 * n) where
      fits_long : eqb (length before) (4 + part_count rule * rows plan + 2 * part_count rule) ≡ true
      fits_long = eq-eqb (length before) (4 + part_count rule * rows plan + 2 * part_count rule) (long ∙ long_is)

      pub right_sized : Sized before n (all_rows z)
      right_sized = record { few_parts = (few_there rule plan ready).0; few_rows = (few_there rule plan ready).1; whole = long }

      -- a part that does not close
      pub zero_left : (mid new : List ℕ) → length mid ≡ length before → new ≡ zeroed mid → {r : Outcome} → r ≡ closings_outcome rule plan → {q : Refusal} → r ≡ Err q
          → (Err q ≡ make_of rule plan before) × (new ≡ bytes_after rule plan before)
      unfolding make_of make_outcome lent_outcome answered bytes_after left_by ◌or_else◌ unless
      zero_left mid new same e d h =
          let c = sym d ∙ h in
          (simp (both_ready rule plan ready, fits_long, c), e ∙ zeroed_same mid before same ∙ simp (both_ready rule plan ready, fits_long, c))

      -- all of them close
      pub table_left : (old mid new : List ℕ) → MadeBelow rule plan old n (all_rows z) n → Stored old mid 0 0 2 (λ k. get_or (bytes_of 2 n) k 0)
          → Stored mid new 2 0 2 (λ k. get_or (bytes_of 2 (all_rows z)) k 0) → new ≡ made_table (views_of rule) plan n
      table_left old mid new made first second =
          with_rows (λ w. length old ≡ 4 + n * w + 2 * n → Stored mid new 2 0 2 (λ k. get_or (bytes_of 2 w) k 0)
          → AgreeOn old (made_table (views_of rule) plan n) 4 (4 + n * w) → AgreeOn old (made_table (views_of rule) plan n) (4 + n * w) (4 + n * w + 2 * n)
          → new ≡ made_table (views_of rule) plan n)
          (λ whole second. whole_table plan some_cycle (views_of rule) (channel_count rule) n (all_fit rule plan ready) old mid new whole first second)
          made.sized.whole second made.marks made.witnesses

      pub made_left : {new : List ℕ} → new ≡ made_table (views_of rule) plan n → {r : Outcome} → r ≡ closings_outcome rule plan → r ≡ unrefused
          → {b : Bool} → b ≡ marked (all_rows z) new (n - 1) 0 → (Ok b ≡ make_of rule plan before) × (new ≡ bytes_after rule plan before)
      unfolding make_of make_outcome lent_outcome answered bytes_after left_by ◌or_else◌ unless
      made_left {new} e d h {b} m =
          let c = sym d ∙ h in (
            ap Ok (m ∙ own_mark) ∙ simp (both_ready rule plan ready, fits_long, c),
            e ∙ ap (made_table (views_of rule) plan) ready.parts ∙ simp (both_ready rule plan ready, fits_long, c),
          )
        where
          last : (n - 1 < n) × (0 < all_rows z)
          last = let l = last_there rule plan ready in (l.1, l.2)

          own_mark : marked (all_rows z) new (n - 1) 0 ≡ made_mark (views_of rule) plan (part_count rule - 1) 0
          own_mark =
              ap (λ (x : List ℕ). marked (all_rows z) x (n - 1) 0) e
              ∙ with_rows (λ w. 0 < w → marked w (made_table (views_of rule) plan n) (n - 1) 0 ≡ made_mark (views_of rule) plan (n - 1) 0)
              (λ l. sym (table_same plan some_cycle few_rows (views_of rule) (channel_count rule) n (all_fit rule plan ready) (n - 1) last.0 0 l)) last.1
              ∙ ap (λ (k : ℕ). made_mark (views_of rule) plan (k - 1) 0) ready.parts

-- Refused before the buffer is looked at.
pub inputs_refused : (rule plan before : List ℕ) {r : Refusal} → inputs_outcome rule plan ≡ Err r
    → (Err r ≡ make_of rule plan before) × (before ≡ bytes_after rule plan before)
unfolding make_of make_outcome lent_outcome answered bytes_after left_by ◌or_else◌
inputs_refused rule plan before e = (simp e, simp e)

-- ---- room in the buffer

pub at_most : {table : List ℕ} (n w : ℕ) → Sized table n w → (n * w ≤ 16384) × (length table ≤ most_bytes)
at_most n w sized =
    let few = sized.few_parts in
    let whole = sized.whole in
    let cells = area n w few sized.few_rows in
    (cells, omega arith)

pub witness_room : {table : List ℕ} (n w : ℕ) → Sized table n w → (i : ℕ) → i < n → (4 + n * w + 2 * i + 2 ≤ length table) × (length table ≤ most_bytes)
witness_room n w sized i l = let whole = sized.whole in (omega arith, (at_most n w sized).1)

-- ---- what the loop leaves

-- a loop that is left at a part that does not close,
pub stopped : {rule plan old new : List ℕ} {n w i : ℕ} {q : Refusal} → length new ≡ length old → MadeTo rule plan old new n w i (Err q)
stopped long = record { long = long; made = λ h. absurd (clear_refused h) }

-- and one that comes to its end
pub ended : {rule plan old new : List ℕ} {n w i : ℕ} → i ≤ n → n ≤ i → MadeBelow rule plan new n w i → length new ≡ length old → MadeTo rule plan old new n w n unrefused
ended {rule} {plan} {old} {new} {n} {w} {i} few all made long = record {
  long = long;
  made = λ _. let same : i ≡ n = omega arith in subst (MadeBelow rule plan new n w) same made;
}
