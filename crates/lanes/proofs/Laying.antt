-- Lanes: the numbers of an array, each stored at its channel and row. Assumes nothing.
use Prim.Native.Nat.{ℕ, ◌+◌, ◌*◌, ◌-◌, ◌^◌, ◌≤◌, ◌<◌}
use native.Mathlib.Nat.{mul-le-mul_right}
use native.Mathlib.Decide.{dec_lt}
use native.Mathlib.Omega.{arith}
use mathlib.Core.Path.{◌≡◌, sym, ap, ◌∙◌, subst, subst₂}
use mathlib.Core.List.{List}
use mathlib.Core.Logic.{inl, by_cases}
use lib.ListN.{length, get_or, take, drop, length-take, length-drop}
use Rattle.fields.specs.LittleEndian.{number_at, bytes_of}
use Rattle.fields.specs.TwosComplement.{signed_of, signed_at}
use Rattle.fields.proofs.Widths.{number4, number_of_bytes}
use Rattle.plan.specs.Layout.{array_length, readings, drifts, cell, entry, stored_reading, stored_drift}
use Rattle.plan.specs.inner.Sizes.{all_stored, most_array, Fitting}
use Rattle.plan.specs.declared.sizes.Sizes.{Sizes}
use Rattle.plan.proofs.Arrays.{array_le, cell_lt}
use Rattle.plan.proofs.Fits.{few_stored}
use Rattle.table.specs.inner.Stored.{Stored}
use Rattle.table.proofs.Places as places
use Rattle.lanes.specs.inner.Lanes.{Room, LaidTo, Laid}

-- A place in the lanes is that of one channel and one row.
same_place : (w c r c' r' : ℕ) → r < w → r' < w → c * w + r ≡ c' * w + r' → (c ≡ c') × (r ≡ r')
same_place w c r c' r' h l e =
    by_cases (dec_lt c c')
    (λ s. absurd (let g : (c + 1) * w ≤ c' * w = mul-le-mul_right w (omega arith) in omega arith))
    (λ s. by_cases (dec_lt c' c)
    (λ t. absurd (let g : (c' + 1) * w ≤ c * w = mul-le-mul_right w (omega arith) in omega arith))
    (λ t. let same : c ≡ c' = omega arith in (same, omega (arith, ap (λ (x : ℕ). x * w) same))))

-- A number that lies before what is written.
number_kept : {old new : List ℕ} {at high : ℕ} {bytes : ℕ → ℕ} → Stored old new at 0 high bytes → (j : ℕ) → j + 4 ≤ at → number_at 4 new j ≡ number_at 4 old j
number_kept {old} {new} {at} w j h =
    number4 new j
    ∙ omega (arith, w.outside j (inl (omega arith)), w.outside (j + 1) (inl (omega arith)), w.outside (j + 2) (inl (omega arith)), w.outside (j + 3) (inl (omega arith)), number4 old j)

-- the number of a cell
pub cell_number : (array : List ℕ) (x i : ℕ) {j : ℕ} → x ≡ number_at 4 array (4 * i) → i ≡ j → x ≡ number_at 4 array (4 * j)
cell_number array x i e f = e ∙ ap (λ (n : ℕ). number_at 4 array (4 * n)) f

module _ (array : List ℕ) (v w : ℕ) where
  pub laid_none : (lanes : List ℕ) → LaidTo array v w lanes (0 * w)
  unfolding LaidTo
  laid_none lanes channel row l h = absurd (omega arith)

  pub laid_same : (lanes : List ℕ) (m n : ℕ) → m ≡ n → LaidTo array v w lanes m → LaidTo array v w lanes n
  unfolding LaidTo
  laid_same lanes m n e laid channel row l h = laid channel row l (omega arith)

  -- one number more
  pub laid_more : {lanes new : List ℕ} (channel row x : ℕ) → row < w → LaidTo array v w lanes (channel * w + row) → x ≡ number_at 4 array (4 * cell v row channel) → x < 256 ^ 4
      → Stored lanes new (4 * (channel * w + row)) 0 4 (λ k. get_or (bytes_of 4 x) k 0) → LaidTo array v w new (channel * w + (row + 1))
  unfolding LaidTo
  laid_more {lanes} {new} channel row x l laid e small stored c r h g =
      by_cases (dec_lt (c * w + r) (channel * w + row))
      (λ s. number_kept stored (4 * (c * w + r)) (omega arith) ∙ laid c r h s)
      (λ s. let same = same_place w channel row c r l h (omega arith) in
      subst₂ (λ (i j : ℕ). number_at 4 new (4 * (i * w + j)) ≡ number_at 4 array (4 * cell v j i)) same.0 same.1
      (number_of_bytes 4 x new (4 * (channel * w + row)) small (λ k q. stored.inside k (omega arith) q) ∙ e))

  module _ {lanes : List ℕ} (room : Room array v w lanes) where
    pub few_places : (channel : ℕ) → channel < v → (channel * w + w ≤ v * w) × (v * w ≤ 2080)
    few_places channel l =
        let g : (channel + 1) * w ≤ v * w = mul-le-mul_right w (omega arith) in
        (omega arith, array_le v w room.few_channels room.few_rows)

    pub number_there : (channel row : ℕ) → channel < v → row < w → 4 * cell v row channel + 4 ≤ length array
    number_there channel row l h = let whole = room.whole in omega (arith, cell_lt v w row channel h l)

    pub place_there : (channel row : ℕ) → channel < v → row < w → (4 * (channel * w + row) + 4 ≤ length lanes) × (length lanes ≤ most_array)
    unfolding array_length
    place_there channel row l h = let there = room.there in let places = few_places channel l in (omega (arith, places.0), room.few)

    pub room_on : {new : List ℕ} → length new ≡ length lanes → Room array v w new
    room_on e = let there = room.there in let few = room.few in record {
      few_channels = room.few_channels;
      few_rows = room.few_rows;
      whole = room.whole;
      there = omega arith;
      few = omega arith;
    }

    pub all_laid : {new : List ℕ} (channel : ℕ) → length new ≡ length lanes → channel ≤ v → v ≤ channel → LaidTo array v w new (channel * w) → Laid array v w new
    all_laid {new} channel e h l laid =
        let there = room.there in
        let few = room.few in
        let same : channel ≡ v = omega arith in
        record { there = omega arith; few = omega arith; laid = laid_same new (channel * w) (v * w) (ap (λ (c : ℕ). c * w) same) laid }

-- ---- the arrays of a plan

module _ {plan : List ℕ} {z : Sizes} (f : Fitting plan z) {lanes : List ℕ} (long : length lanes ≡ most_array) where
  -- a part of the plan that is as long as an array
  pub part_room : (a e : ℕ) → e ≡ a + array_length z.channels (all_stored z) → e ≤ length plan → Room (take (e - a) (drop a plan)) z.channels (all_stored z) lanes
  unfolding array_length
  part_room a e h l = record {
    few_channels = f.few_channels;
    few_rows = few_stored f;
    whole = simp (length-take, length-drop) (omega arith);
    there = omega (arith, array_le z.channels (all_stored z) f.few_channels (few_stored f));
    few = omega arith;
  }

-- the array that was laid out, by its name
pub laid_as : {part array : List ℕ} {v w : ℕ} {lanes : List ℕ} → part ≡ array → Laid part v w lanes → Laid array v w lanes
laid_as {part} {array} {v} {w} {lanes} e laid = subst (λ (a : List ℕ). Laid a v w lanes) e laid

-- ---- what stands in lanes

-- A number of a lane is that of its channel and row in the array.
lane_entry : {array lanes : List ℕ} {v w : ℕ} → Laid array v w lanes → (channel k : ℕ) → channel < v → k < w → entry array (cell v k channel) ≡ entry lanes (channel * w + k)
unfolding entry signed_at LaidTo
lane_entry {array} {lanes} {v} {w} laid channel k l h = sym (ap (signed_of 4) (laid.laid channel k h (places.cell v w channel k l h)))

module _ {plan : List ℕ} {z : Sizes} (f : Fitting plan z) (channel k : ℕ) (l : channel < z.channels) (h : k < all_stored z) where
  pub reading_in_lane : {values : List ℕ} → Laid (readings plan) z.channels (all_stored z) values → stored_reading plan k channel ≡ entry values (channel * all_stored z + k)
  unfolding stored_reading
  reading_in_lane laid = ap (λ (v : ℕ). entry (readings plan) (cell v k channel)) f.v_is ∙ lane_entry laid channel k l h

  pub drift_in_lane : {steps : List ℕ} → Laid (drifts plan) z.channels (all_stored z) steps → stored_drift plan k channel ≡ entry steps (channel * all_stored z + k)
  unfolding stored_drift
  drift_in_lane laid = ap (λ (v : ℕ). entry (drifts plan) (cell v k channel)) f.v_is ∙ lane_entry laid channel k l h
