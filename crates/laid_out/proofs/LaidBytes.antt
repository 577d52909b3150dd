-- The bytes of a plan with passes of its cycle laid out, written piece behind piece: fields of the sizes, numbers of a row, rows of
-- an array, and the whole. Assumes nothing.
use Prim.Native.Nat.{ℕ, ◌+◌, ◌*◌, ◌-◌, ◌≤◌, ◌<◌}
use native.Mathlib.Nat.{mul-le-mul_left}
use native.Mathlib.Omega.{arith}
use mathlib.Core.Path.{◌≡◌, refl, sym, ap, ap₂, ◌∙◌}
use mathlib.Core.Bool.{true}
use mathlib.Core.List.{List, ◌++◌, append_assoc}
use lib.IntN.{ℤ, pos}
use lib.ListN.{length, drop, length-append}
use borrow.Rule.Slice.PartMut.{mid_of, put_mid}
use Rattle.fields.specs.LittleEndian.{bytes_of}
use Rattle.fields.specs.TwosComplement.{pattern_of}
use Rattle.fields.specs.Pieces.{pieces}
use Rattle.fields.specs.inner.Biased.{bias}
use Rattle.fields.proofs.Widths.{length_bytes}
use Rattle.plan.specs.Layout.{sizes_length, head_length, array_length, top_of}
use Rattle.plan.specs.Bytes.{word, head_of, tops_of, array_of, plan_of}
use Rattle.plan.specs.inner.Sizes.{all_rows, all_stored, most_array, Fitting}
use Rattle.plan.specs.declared.sizes.Sizes.{Sizes}
use Rattle.plan.proofs.Arrays.{array_le}
use Rattle.plan.proofs.PlanBytes.{row_bytes, length_word, length_array, length_head, length_tops}
use Rattle.laid_out.specs.LaidOut.{start_after, laid_reading, laid_drift, laid_out, can_be_laid}
use Rattle.laid_out.specs.inner.LaidSizes.{laid_sizes, most_plan}
use Rattle.laid_out.specs.inner.Fronted.{fronted}
use Rattle.laid_out.proofs.LaidRuns.{laid_few}
use Rattle.laid_out.proofs.Fronts.{as_front, front_more}

-- ---- sizes

module _ (s : List ℕ) where
  -- A field behind what was written.
  pub field_more : (a l ys : List ℕ) (x at : ℕ) → length a ≡ at → at + 2 ≤ length s → l ≡ fronted s a → ys ≡ bytes_of 2 x ++ drop 2 (mid_of at (length l - at) l)
      → put_mid at (length l - at) l ys ≡ fronted s (a ++ bytes_of 2 x)
  field_more a l ys x at e room h g =
      front_more s l a (bytes_of 2 x) ys at e (omega (arith, length_bytes 2 x)) h (as_front (mid_of at (length l - at) l) (bytes_of 2 x) 2 (length_bytes 2 x) g)

  -- Four of them are the head.
  pub as_head : {l : List ℕ} (v p c z : ℕ) → l ≡ fronted s (((bytes_of 2 v ++ bytes_of 2 p) ++ bytes_of 2 c) ++ bytes_of 2 z) → l ≡ fronted s (head_of v p c z)
  unfolding head_of
  as_head v p c z h =
      h ∙ ap (fronted s)
      (append_assoc (bytes_of 2 v ++ bytes_of 2 p) (bytes_of 2 c) (bytes_of 2 z) ∙ append_assoc (bytes_of 2 v) (bytes_of 2 p) (bytes_of 2 c ++ bytes_of 2 z))

-- ---- arrays

-- A number, by its pattern.
pub as_word : (old : List ℕ) (x : ℕ) {new : List ℕ} {y z : ℤ} → x ≡ pattern_of 4 y → y ≡ z → new ≡ bytes_of 4 x ++ drop 4 old → new ≡ fronted old (word z)
unfolding word
as_word old x {z = z} e g h =
    as_front old (bytes_of 4 (pattern_of 4 z)) 4 (length_bytes 4 (pattern_of 4 z)) (h ∙ ap (λ (i : ℕ). bytes_of 4 i ++ drop 4 old) (e ∙ ap (pattern_of 4) g))

-- the words of a row
abbrev pub words : (ℕ → ℕ → ℤ) → ℕ → ℕ → List ℕ
words number k channel = word (number k channel)

pub each_word : (number : ℕ → ℕ → ℤ) (k channel : ℕ) → length (words number k channel) ≡ 4
each_word number k channel = length_word (number k channel)

-- Rows are an array.
pub as_array : (v : ℕ) (number : ℕ → ℕ → ℤ) (s : List ℕ) (w : ℕ) {l : List ℕ} → l ≡ fronted s (pieces (row_bytes v number) w) → l ≡ fronted s (array_of v w number)
unfolding array_of
as_array v number s w h = h

-- A row of words is the tops.
pub as_tops : (v : ℕ) (top : ℕ → ℤ) (s : List ℕ) {l : List ℕ} → l ≡ fronted s (pieces (words (λ k. top) 0) v) → l ≡ fronted s (tops_of v top)
unfolding tops_of
as_tops v top s h = h

-- A top, which is not below 0, is its own pattern.
pub top_pattern : (n : ℕ) → n < bias → n ≡ pattern_of 4 (pos n)
unfolding pattern_of
top_pattern n h = refl

-- Room for the rows of an array, and for one of them.
pub rows_room : (v w long : ℕ) → array_length v w ≤ long → w * (v * 4) ≤ long
unfolding array_length
rows_room v w long h = omega arith

pub row_room : (v w k long : ℕ) → array_length v w ≤ long → k < w → 4 * (v * k) + 4 * v ≤ long
unfolding array_length
row_room v w k long h l = let g : v * (k + 1) ≤ v * w = mul-le-mul_left v (omega arith) in omega arith

-- ---- the whole

module _ {plan : List ℕ} {z : Sizes} (fits : Fitting plan z) (n : ℕ) where
  abbrev w : ℕ
  w = all_stored (laid_sizes z n)

  abbrev head : List ℕ
  head = head_of z.channels (z.start + n * z.cycle) z.cycle z.lead

  abbrev tops : List ℕ
  tops = tops_of z.channels (top_of plan)

  abbrev front : List ℕ
  front = head ++ tops

  length_front : length front ≡ head_length z.channels
  length_front = length-append head tops ∙ ap₂ ◌+◌ (length_head z.channels (z.start + n * z.cycle) z.cycle z.lead) (length_tops z.channels (top_of plan))

  abbrev array : (ℕ → ℕ → ℤ) → List ℕ
  array = array_of z.channels w

  -- Head, tops, readings and drifts are the plan with n passes laid out.
  pub laid_parts : laid_out plan n ≡ head ++ (tops ++ (array (laid_reading plan) ++ array (laid_drift plan n)))
  unfolding laid_out plan_of start_after
  laid_parts = rw (fits.v_is, fits.p_is, fits.c_is, fits.l_is) refl

  module _ (can : can_be_laid plan n ≡ true) {r : Sizes} (e : r ≡ laid_sizes z n) where
    -- The sizes are small,
    pub laid_small : (r.channels ≤ 8) × (all_rows r ≤ 256) × (r.lead ≤ 4)
    laid_small = rw e (laid_few plan fits n can)

    -- and so is an array.
    pub stored_is : all_stored r ≡ w
    stored_is = ap (λ (y : Sizes). all_stored y) e

    pub array_is : array_length r.channels (all_stored r) ≡ array_length z.channels w
    array_is = ap (λ (y : Sizes). array_length y.channels (all_stored y)) e

    pub array_few : array_length z.channels (all_stored r) ≤ most_array
    unfolding array_length
    array_few = let own = laid_few plan fits n can in rw e (let most = array_le z.channels w own.0 (omega (arith, own.1, own.2)) in omega arith)

    few : array_length z.channels w ≤ most_array
    few = rw stored_is at array_few

    module _ (s l ys : List ℕ) (room : length s ≡ most_plan) where
      -- The tops are written behind the sizes,
      pub tops_behind : (a : ℕ) → a ≡ sizes_length → l ≡ fronted s (head_of r.channels r.start r.cycle r.lead)
          → ys ≡ fronted (mid_of a (length l - a) l) tops → put_mid a (length l - a) l ys ≡ fronted s front
      tops_behind a f h g =
          front_more s l head tops ys a (length_head z.channels (z.start + n * z.cycle) z.cycle z.lead ∙ sym f)
          (omega (arith, length_tops z.channels (top_of plan), fits.few_channels))
          (h ∙ ap (λ (y : Sizes). fronted s (head_of y.channels y.start y.cycle y.lead)) e) g

      -- the readings behind them,
      pub readings_behind : (a : ℕ) → a ≡ head_length z.channels → l ≡ fronted s front
          → ys ≡ fronted (mid_of a (length l - a) l) (array_of z.channels (all_stored r) (laid_reading plan))
          → put_mid a (length l - a) l ys ≡ fronted s (front ++ array (laid_reading plan))
      readings_behind a f h g =
          front_more s l front (array (laid_reading plan)) ys a (length_front ∙ sym f)
          (omega (arith, length_array z.channels (laid_reading plan) w, few, fits.few_channels)) h
          (g ∙ ap (λ (k : ℕ). fronted (mid_of a (length l - a) l) (array_of z.channels k (laid_reading plan))) stored_is)

      -- and the drifts behind those.
      pub drifts_behind : (b : ℕ) → b ≡ head_length r.channels + array_length r.channels (all_stored r) → l ≡ fronted s (front ++ array (laid_reading plan))
          → ys ≡ fronted (mid_of b (length l - b) l) (array_of z.channels (all_stored r) (laid_drift plan n))
          → put_mid b (length l - b) l ys ≡ laid_out plan n ++ drop (length (laid_out plan n)) s
      unfolding fronted
      drifts_behind b f h g =
          front_more s l (front ++ array (laid_reading plan)) (array (laid_drift plan n)) ys b
          (length-append front (array (laid_reading plan))
          ∙ ap₂ ◌+◌ (length_front ∙ ap (λ (y : Sizes). head_length y.channels) (sym e)) (length_array z.channels (laid_reading plan) w ∙ sym array_is)
          ∙ sym f)
          (omega (arith, length_array z.channels (laid_drift plan n) w, few, array_is, fits.few_channels, ap (λ (y : Sizes). y.channels) e)) h
          (g ∙ ap (λ (k : ℕ). fronted (mid_of b (length l - b) l) (array_of z.channels k (laid_drift plan n))) stored_is)
          ∙ ap (fronted s)
          (append_assoc front (array (laid_reading plan)) (array (laid_drift plan n))
          ∙ append_assoc head tops (array (laid_reading plan) ++ array (laid_drift plan n))
          ∙ sym laid_parts)
