-- Plans written from their numbers: they have these sizes and numbers, and a plan written from its own numbers is itself.
-- Assumes nothing.
use Prim.Native.Nat.{ℕ, ◌+◌, ◌*◌, ◌≤◌, ◌<◌}
use native.Mathlib.Nat.{mul-le-mul_right}
use native.Mathlib.Omega.{arith}
use mathlib.Core.Path.{◌≡◌, refl, sym, ap, ap₂, ◌∙◌}
use mathlib.Core.Bool.{true}
use mathlib.Core.List.{List, [], ◌++◌, append_assoc}
use lib.IntN.{ℤ}
use lib.Signed.{non_neg}
use lib.ListN.{length, take, drop, length-append, length-take, length-drop, take-append-drop}
use lib.Seq.{take_at, drop_at, take_all, take-add, drop-drop}
use Rattle.fields.specs.LittleEndian.{number_at, bytes_of}
use Rattle.fields.specs.TwosComplement.{signed_of, pattern_of, signed_at}
use Rattle.fields.specs.Pieces.{pieces}
use Rattle.fields.specs.inner.Ranges.{Bytes, SignedFits}
use Rattle.fields.proofs.Widths.{number_lt, length_bytes, read_written, written_read}
use Rattle.fields.proofs.Patterns.{signed_pattern, pattern_signed, pattern_lt, signed_fits_lem}
use Rattle.fields.proofs.Pieces.{length-pieces, split, same_pieces, cut_pieces}
use Rattle.fields.proofs.ByteParts.{bytes_take, bytes_drop}
use Rattle.plan.specs.Layout.{channels, start_rows, cycle_rows, lead_rows, rows, stored_rows, sizes_length, head_length, array_length, entry, tops, top_of, readings, drifts, cell, stored_reading, stored_drift}
use Rattle.plan.specs.Bytes.{word, array_of, head_of, tops_of, plan_of}
use Rattle.plan.specs.inner.Sizes.{Fitting}
use Rattle.plan.specs.declared.sizes.Sizes.{Sizes}
use Rattle.plan.proofs.Arrays.{cell_lt}

-- ---- arrays

pub length_word : (z : ℤ) → length (word z) ≡ 4
unfolding word
length_word z = length_bytes 4 (pattern_of 4 z)

module _ (v : ℕ) (number : ℕ → ℕ → ℤ) where
  -- the bytes of a row
  abbrev pub row_bytes : ℕ → List ℕ
  row_bytes k = pieces (λ channel. word (number k channel)) v

  pub length_row : (k : ℕ) → length (row_bytes k) ≡ v * 4
  length_row k = length-pieces (λ channel. word (number k channel)) 4 (λ channel. length_word (number k channel)) v

  pub length_array : (w : ℕ) → length (array_of v w number) ≡ array_length v w
  unfolding array_of array_length
  length_array w = length-pieces row_bytes (v * 4) length_row w ∙ omega arith

  -- The number of a row and a channel is read back.
  pub array_entry : (w k channel : ℕ) → k < w → channel < v → SignedFits 4 (number k channel) → entry (array_of v w number) (cell v k channel) ≡ number k channel
  unfolding entry signed_at cell array_of word array_length
  array_entry w k channel h l fits =
      ap (λ (x : List ℕ). signed_of 4 (number_at 4 x (4 * (k * v + channel)))) whole
      ∙ ap (signed_of 4) (read_written 4 (pattern_of 4 (number k channel)) before behind (4 * (k * v + channel)) place (pattern_lt 4 (number k channel) fits))
      ∙ signed_pattern 4 (number k channel) fits
    where
      in_row : ℕ → List ℕ
      in_row = pieces (λ j. word (number k j))

      before : List ℕ
      before = array_of v k number ++ in_row channel

      outer : (rest : List ℕ) × (pieces row_bytes w ≡ pieces row_bytes k ++ (row_bytes k ++ rest))
      outer = split row_bytes w k h

      inner : (rest : List ℕ) × (row_bytes k ≡ in_row channel ++ (word (number k channel) ++ rest))
      inner = split (λ j. word (number k j)) v channel l

      behind : List ℕ
      behind = inner.0 ++ outer.0

      whole : array_of v w number ≡ before ++ (bytes_of 4 (pattern_of 4 (number k channel)) ++ behind)
      whole =
          outer.1
          ∙ ap (λ (x : List ℕ). pieces row_bytes k ++ (x ++ outer.0)) inner.1
          ∙ ap (λ (x : List ℕ). pieces row_bytes k ++ x)
          (append_assoc (in_row channel) (word (number k channel) ++ inner.0) outer.0
          ∙ ap (λ (x : List ℕ). in_row channel ++ x) (append_assoc (word (number k channel)) inner.0 outer.0))
          ∙ sym (append_assoc (pieces row_bytes k) (in_row channel) (word (number k channel) ++ (inner.0 ++ outer.0)))

      place : length before ≡ 4 * (k * v + channel)
      place =
          length-append (array_of v k number) (in_row channel)
          ∙ (let e = length_array k in let g = length-pieces (λ j. word (number k j)) 4 (λ j. length_word (number k j)) channel in omega arith)

-- Arrays of the same numbers.
pub same_array : (v w : ℕ) (f g : ℕ → ℕ → ℤ) → ((k channel : ℕ) → k < w → channel < v → f k channel ≡ g k channel) → array_of v w f ≡ array_of v w g
unfolding array_of
same_array v w f g h = same_pieces _ _ w (λ k l. same_pieces _ _ v (λ channel q. ap word (h k channel l q)))

-- Numbers read from bytes and written again are these bytes: one of them,
pub word_again : (l : List ℕ) (at : ℕ) → Bytes l → at + 4 ≤ length l → word (signed_at 4 l at) ≡ take 4 (drop at l)
unfolding word signed_at
word_again l at b h = ap (bytes_of 4) (pattern_signed 4 (number_at 4 l at) (number_lt 4 l at b)) ∙ written_read 4 l at b h

-- and an array.
pub array_again : (l : List ℕ) (v w : ℕ) → Bytes l → length l ≡ array_length v w → array_of v w (λ k channel. entry l (cell v k channel)) ≡ l
unfolding array_of array_length entry cell
array_again l v w b n =
    same_pieces _ (λ k. take (v * 4) (drop (0 + k * (v * 4)) l)) w (λ k h.
    same_pieces _ (λ channel. take 4 (drop (4 * (k * v) + channel * 4) l)) v (λ channel g.
    word_again l (4 * (k * v + channel)) b (let q = cell_lt v w k channel h g in let s : (k + 1) * v ≤ w * v = mul-le-mul_right v (omega arith) in omega arith)
    ∙ (let e : 4 * (k * v + channel) ≡ 4 * (k * v) + channel * 4 = omega arith in ap (λ (i : ℕ). take 4 (drop i l)) e))
    ∙ cut_pieces l (4 * (k * v)) 4 v
    ∙ (let e : 4 * (k * v) ≡ 0 + k * (v * 4) = omega arith in ap (λ (i : ℕ). take (v * 4) (drop i l)) e))
    ∙ cut_pieces l 0 (v * 4) w
    ∙ take_all (w * (v * 4)) l (omega arith)

-- ---- tops, which are an array of one row

tops_array : (v : ℕ) (top : ℕ → ℤ) → tops_of v top ≡ array_of v 1 (λ k. top)
unfolding tops_of array_of pieces
tops_array v top = refl

one_row : (v channel : ℕ) → cell v 0 channel ≡ channel
unfolding cell
one_row v channel = omega arith

pub length_tops : (v : ℕ) (top : ℕ → ℤ) → length (tops_of v top) ≡ 4 * v
unfolding tops_of
length_tops v top = length-pieces (λ channel. word (top channel)) 4 (λ channel. length_word (top channel)) v ∙ omega arith

tops_entry : (v : ℕ) (top : ℕ → ℤ) (channel : ℕ) → channel < v → SignedFits 4 (top channel) → entry (tops_of v top) channel ≡ top channel
tops_entry v top channel h fits =
    ap (λ (x : List ℕ). entry x channel) (tops_array v top)
    ∙ ap (entry (array_of v 1 (λ k. top))) (sym (one_row v channel))
    ∙ array_entry v (λ k. top) 1 0 channel (omega arith) h fits

tops_again : (l : List ℕ) (v : ℕ) (top : ℕ → ℤ) → Bytes l → length l ≡ 4 * v → ((channel : ℕ) → channel < v → top channel ≡ entry l channel) → tops_of v top ≡ l
unfolding array_length
tops_again l v top b n same =
    tops_array v top
    ∙ same_array v 1 (λ k. top) (λ k channel. entry l (cell v k channel)) (λ k channel h g.
    let first : k ≡ 0 = omega arith in
    same channel g ∙ ap (entry l) (sym (ap (λ (i : ℕ). cell v i channel) first ∙ one_row v channel)))
    ∙ array_again l v 1 b (omega arith)

-- ---- a plan made from its numbers

pub length_head : (v p c l : ℕ) → length (head_of v p c l) ≡ sizes_length
unfolding head_of
length_head v p c l = simp (length-append, length_bytes)

module _ (v p c l : ℕ) (top : ℕ → ℤ) (reading drift : ℕ → ℕ → ℤ) where
  abbrev made : List ℕ
  made = plan_of v p c l top reading drift

  abbrev head : List ℕ
  head = head_of v p c l

  abbrev tops_made : List ℕ
  tops_made = tops_of v top

  abbrev readings_made : List ℕ
  readings_made = array_of v (l + (p + c)) reading

  abbrev drifts_made : List ℕ
  drifts_made = array_of v (l + (p + c)) drift

  -- what stands behind the sizes
  abbrev behind : List ℕ
  behind = tops_made ++ (readings_made ++ drifts_made)

  abbrev long : ℕ
  long = array_length v (l + (p + c))

  -- Its length.
  pub made_length : length made ≡ head_length v + 2 * long
  unfolding plan_of
  made_length =
      length-append head behind
      ∙ ap₂ ◌+◌ (length_head v p c l)
      (length-append tops_made (readings_made ++ drifts_made)
      ∙ ap₂ ◌+◌ (length_tops v top) (length-append readings_made drifts_made ∙ ap₂ ◌+◌ (length_array v reading (l + (p + c))) (length_array v drift (l + (p + c)))))
      ∙ omega arith

  -- the fields of the sizes, one after another
  opened : made ≡ bytes_of 2 v ++ (bytes_of 2 p ++ (bytes_of 2 c ++ (bytes_of 2 l ++ behind)))
  unfolding plan_of head_of
  opened =
      append_assoc (bytes_of 2 v) (bytes_of 2 p ++ (bytes_of 2 c ++ bytes_of 2 l)) behind
      ∙ ap (λ (x : List ℕ). bytes_of 2 v ++ x)
      (append_assoc (bytes_of 2 p) (bytes_of 2 c ++ bytes_of 2 l) behind
      ∙ ap (λ (x : List ℕ). bytes_of 2 p ++ x) (append_assoc (bytes_of 2 c) (bytes_of 2 l) behind))

  module _ (few_channels : v ≤ 8) (few_rows : p + c ≤ 256) (few_lead : l ≤ 4) where
    -- Its sizes.
    pub made_channels : channels made ≡ v
    unfolding channels
    made_channels =
        ap (λ (x : List ℕ). number_at 2 x 0) opened
        ∙ read_written 2 v [] (bytes_of 2 p ++ (bytes_of 2 c ++ (bytes_of 2 l ++ behind))) 0 refl (omega arith)

    pub made_start : start_rows made ≡ p
    unfolding start_rows
    made_start =
        ap (λ (x : List ℕ). number_at 2 x 2) opened
        ∙ read_written 2 p (bytes_of 2 v) (bytes_of 2 c ++ (bytes_of 2 l ++ behind)) 2 (length_bytes 2 v) (omega arith)

    pub made_cycle : cycle_rows made ≡ c
    unfolding cycle_rows
    made_cycle =
        ap (λ (x : List ℕ). number_at 2 x 4)
        (opened ∙ sym (append_assoc (bytes_of 2 v) (bytes_of 2 p) (bytes_of 2 c ++ (bytes_of 2 l ++ behind))))
        ∙ read_written 2 c (bytes_of 2 v ++ bytes_of 2 p) (bytes_of 2 l ++ behind) 4 (simp (length-append, length_bytes)) (omega arith)

    pub made_lead : lead_rows made ≡ l
    unfolding lead_rows
    made_lead =
        ap (λ (x : List ℕ). number_at 2 x 6)
        (opened
        ∙ sym (append_assoc (bytes_of 2 v) (bytes_of 2 p) (bytes_of 2 c ++ (bytes_of 2 l ++ behind)))
        ∙ sym (append_assoc (bytes_of 2 v ++ bytes_of 2 p) (bytes_of 2 c) (bytes_of 2 l ++ behind)))
        ∙ read_written 2 l ((bytes_of 2 v ++ bytes_of 2 p) ++ bytes_of 2 c) behind 6 (simp (length-append, length_bytes)) (omega arith)

    pub made_rows : rows made ≡ p + c
    unfolding rows
    made_rows = ap₂ ◌+◌ made_start made_cycle

    pub made_stored : stored_rows made ≡ l + (p + c)
    unfolding stored_rows
    made_stored = ap₂ ◌+◌ made_lead made_rows

    -- Its tops.
    pub made_tops : tops made ≡ tops_made
    unfolding tops plan_of
    made_tops =
        rw made_channels
        (ap (take (4 * v)) (drop_at head behind sizes_length (length_head v p c l)) ∙ take_at tops_made (readings_made ++ drifts_made) (4 * v) (length_tops v top))

    -- Its arrays.
    abbrev front : List ℕ
    front = head ++ tops_made

    length_front : length front ≡ head_length v
    length_front = length-append head tops_made ∙ ap₂ ◌+◌ (length_head v p c l) (length_tops v top)

    pub made_readings : readings made ≡ readings_made
    unfolding readings plan_of
    made_readings =
        rw (made_channels, made_stored)
        (ap (λ (x : List ℕ). take long (drop (head_length v) x)) (sym (append_assoc head tops_made (readings_made ++ drifts_made)))
        ∙ ap (take long) (drop_at front (readings_made ++ drifts_made) (head_length v) length_front)
        ∙ take_at readings_made drifts_made long (length_array v reading (l + (p + c))))

    pub made_drifts : drifts made ≡ drifts_made
    unfolding drifts plan_of
    made_drifts =
        let ahead : length (front ++ readings_made) ≡ head_length v + long =
        length-append front readings_made ∙ ap₂ ◌+◌ length_front (length_array v reading (l + (p + c))) in
        rw (made_channels, made_stored)
        (ap (λ (x : List ℕ). take long (drop (head_length v + long) x))
        (sym (append_assoc head tops_made (readings_made ++ drifts_made)) ∙ sym (append_assoc front readings_made drifts_made))
        ∙ ap (take long) (drop_at (front ++ readings_made) drifts_made (head_length v + long) ahead)
        ∙ take_all long drifts_made (omega (arith, length_array v drift (l + (p + c)))))

    -- Its numbers, those that fit 4 bytes.
    pub made_top : (channel : ℕ) → channel < v → SignedFits 4 (top channel) → top_of made channel ≡ top channel
    unfolding top_of
    made_top channel within fits = rw made_tops (tops_entry v top channel within fits)

    module _ (k channel : ℕ) (there : k < l + (p + c)) (within : channel < v) where
      pub made_reading : SignedFits 4 (reading k channel) → stored_reading made k channel ≡ reading k channel
      unfolding stored_reading
      made_reading fits = rw (made_readings, made_channels) (array_entry v reading (l + (p + c)) k channel there within fits)

      pub made_drift : SignedFits 4 (drift k channel) → stored_drift made k channel ≡ drift k channel
      unfolding stored_drift
      made_drift fits = rw (made_drifts, made_channels) (array_entry v drift (l + (p + c)) k channel there within fits)

    -- Its sizes fit.
    pub made_fitting : 1 ≤ v → 1 ≤ c → ((channel : ℕ) → channel < v → SignedFits 4 (top channel) × (non_neg (top channel) ≡ true)) → Fitting made (record { channels = v; start = p; cycle = c; lead = l })
    made_fitting a_channel a_cycle natural = record {
      v_is = made_channels;
      p_is = made_start;
      c_is = made_cycle;
      l_is = made_lead;
      a_channel = a_channel;
      few_channels = few_channels;
      a_cycle = a_cycle;
      few_rows = few_rows;
      few_lead = few_lead;
      whole = made_length;
      no_negative = λ channel within. ap non_neg (made_top channel within (natural channel within).0) ∙ (natural channel within).1;
    }

-- ---- a plan and its own numbers

module _ (plan : List ℕ) (bytes : Bytes plan) where
  tops_bytes : Bytes (tops plan)
  unfolding tops
  tops_bytes = bytes_take (4 * channels plan) (drop sizes_length plan) (bytes_drop sizes_length plan bytes)

  readings_bytes : Bytes (readings plan)
  unfolding readings
  readings_bytes =
      bytes_take (array_length (channels plan) (stored_rows plan)) (drop (head_length (channels plan)) plan) (bytes_drop (head_length (channels plan)) plan bytes)

  drifts_bytes : Bytes (drifts plan)
  unfolding drifts
  drifts_bytes =
      bytes_take (array_length (channels plan) (stored_rows plan)) (drop (head_length (channels plan) + array_length (channels plan) (stored_rows plan)) plan)
      (bytes_drop (head_length (channels plan) + array_length (channels plan) (stored_rows plan)) plan bytes)

  -- Tops, readings and drifts fit 4 bytes.
  pub top_fits : (channel : ℕ) → SignedFits 4 (top_of plan channel)
  unfolding top_of entry signed_at
  top_fits channel = signed_fits_lem 4 _ (number_lt 4 _ _ tops_bytes)

  pub reading_fits : (k channel : ℕ) → SignedFits 4 (stored_reading plan k channel)
  unfolding stored_reading entry signed_at
  reading_fits k channel = signed_fits_lem 4 _ (number_lt 4 _ _ readings_bytes)

  pub drift_fits : (k channel : ℕ) → SignedFits 4 (stored_drift plan k channel)
  unfolding stored_drift entry signed_at
  drift_fits k channel = signed_fits_lem 4 _ (number_lt 4 _ _ drifts_bytes)

  module _ {z : Sizes} (fits : Fitting plan z) where
    abbrev size : ℕ
    size = array_length (channels plan) (stored_rows plan)

    all : length plan ≡ head_length (channels plan) + 2 * size
    unfolding stored_rows rows
    all = rw (fits.v_is, fits.p_is, fits.c_is, fits.l_is) fits.whole

    length_own : length (tops plan) ≡ 4 * channels plan
    unfolding tops
    length_own = simp (length-take, length-drop) (omega (arith, all))

    length_readings : length (readings plan) ≡ size
    unfolding readings
    length_readings = simp (length-take, length-drop) (omega (arith, all))

    length_drifts : length (drifts plan) ≡ size
    unfolding drifts
    length_drifts = simp (length-take, length-drop) (omega (arith, all))

    head_again : head_of (channels plan) (start_rows plan) (cycle_rows plan) (lead_rows plan) ≡ take sizes_length plan
    unfolding head_of channels start_rows cycle_rows lead_rows
    head_again =
        ap₂ (λ (x y : List ℕ). x ++ y) (written_read 2 plan 0 bytes (omega (arith, all)))
        (ap₂ (λ (x y : List ℕ). x ++ y) (written_read 2 plan 2 bytes (omega (arith, all)))
        (ap₂ (λ (x y : List ℕ). x ++ y) (written_read 2 plan 4 bytes (omega (arith, all))) (written_read 2 plan 6 bytes (omega (arith, all)))))
        ∙ sym (take-add 2 6 plan
        ∙ ap (λ (x : List ℕ). take 2 plan ++ x)
        (take-add 2 4 (drop 2 plan)
        ∙ ap (λ (x : List ℕ). take 2 (drop 2 plan) ++ x)
        (ap (take 4) (drop-drop 2 2 plan)
        ∙ take-add 2 2 (drop 4 plan)
        ∙ ap (λ (x : List ℕ). take 2 (drop 4 plan) ++ take 2 x) (drop-drop 2 4 plan))))

    own_tops : (top : ℕ → ℤ) → ((channel : ℕ) → channel < channels plan → top channel ≡ top_of plan channel) → tops_of (channels plan) top ≡ tops plan
    unfolding top_of
    own_tops top same = tops_again (tops plan) (channels plan) top tops_bytes length_own same

    readings_again : array_of (channels plan) (stored_rows plan) (stored_reading plan) ≡ readings plan
    unfolding stored_reading
    readings_again = array_again (readings plan) (channels plan) (stored_rows plan) readings_bytes length_readings

    drifts_again : array_of (channels plan) (stored_rows plan) (stored_drift plan) ≡ drifts plan
    unfolding stored_drift
    drifts_again = array_again (drifts plan) (channels plan) (stored_rows plan) drifts_bytes length_drifts

    arrays : readings plan ++ drifts plan ≡ drop (head_length (channels plan)) plan
    unfolding readings drifts
    arrays =
        let at = head_length (channels plan) in
        ap (λ (x : List ℕ). take size (drop at plan) ++ x)
        (take_all size (drop (at + size) plan) (simp length-drop (omega (arith, all))) ∙ sym (drop-drop size at plan))
        ∙ take-append-drop size (drop at plan)

    parts : take sizes_length plan ++ (tops plan ++ (readings plan ++ drifts plan)) ≡ plan
    unfolding tops
    parts =
        ap (λ (x : List ℕ). take sizes_length plan ++ (take (4 * channels plan) (drop sizes_length plan) ++ x))
        (arrays ∙ sym (drop-drop (4 * channels plan) sizes_length plan))
        ∙ ap (λ (x : List ℕ). take sizes_length plan ++ x) (take-append-drop (4 * channels plan) (drop sizes_length plan))
        ∙ take-append-drop sizes_length plan

    -- A plan written from numbers that are its own is the plan.
    pub plan_again : (top : ℕ → ℤ) (reading drift : ℕ → ℕ → ℤ)
        → ((channel : ℕ) → channel < channels plan → top channel ≡ top_of plan channel)
        → ((k channel : ℕ) → k < stored_rows plan → channel < channels plan → reading k channel ≡ stored_reading plan k channel)
        → ((k channel : ℕ) → k < stored_rows plan → channel < channels plan → drift k channel ≡ stored_drift plan k channel)
        → plan_of (channels plan) (start_rows plan) (cycle_rows plan) (lead_rows plan) top reading drift ≡ plan
    unfolding plan_of stored_rows rows
    plan_again top reading drift same_tops_lem same_readings same_drifts =
        ap₂ (λ (x y : List ℕ). x ++ y) head_again
        (ap₂ (λ (x y : List ℕ). x ++ y) (own_tops top same_tops_lem)
        (ap₂ (λ (x y : List ℕ). x ++ y)
        (same_array (channels plan) (stored_rows plan) reading (stored_reading plan) same_readings ∙ readings_again)
        (same_array (channels plan) (stored_rows plan) drift (stored_drift plan) same_drifts ∙ drifts_again)))
        ∙ parts
