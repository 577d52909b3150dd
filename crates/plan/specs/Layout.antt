-- The plan's layout: its sizes, its tops, and its two arrays, each a part that starts inside the bytes. A plan is the field's lasso, an
-- ultimately periodic run: the start is its stem, the cycle its loop, and a drift what a reading gains on each iteration of the
-- loop; the lead-in is its history, what was read before position 0. Assumes nothing.
use Rattle.std.specs.Prelude.{ℕ, zero, suc, ◌+◌, ◌*◌, List, Bool, false, not, ◌&&◌, ◌||◌, leb, eqb, length, take, drop, ℤ}
use Rattle.std.specs.Int.Signed.{non_neg}
use Rattle.fields.specs.LittleEndian.{number_at}
use Rattle.fields.specs.TwosComplement.{signed_at}

-- Sizes: V, P (start rows), C (cycle rows) and L (lead-in rows), 2 bytes each. W = P + C.
unfoldable pub channels : List ℕ → ℕ
channels plan = number_at 2 plan 0

-- the rows of the stem
unfoldable pub start_rows : List ℕ → ℕ
start_rows plan = number_at 2 plan 2

-- the rows of the loop
unfoldable pub cycle_rows : List ℕ → ℕ
cycle_rows plan = number_at 2 plan 4

-- the rows of the lead-in
unfoldable pub lead_rows : List ℕ → ℕ
lead_rows plan = number_at 2 plan 6

unfoldable pub rows : List ℕ → ℕ
rows plan = start_rows plan + cycle_rows plan

-- Both arrays begin with L lead-in rows, which W does not count.
unfoldable pub stored_rows : List ℕ → ℕ
stored_rows plan = lead_rows plan + rows plan

-- the bytes of the sizes, of them with v tops, and of one array of w rows of v numbers
abbrev pub sizes_length : ℕ
sizes_length = 8

abbrev pub head_length : ℕ → ℕ
head_length v = sizes_length + 4 * v

unfoldable pub array_length : ℕ → ℕ → ℕ
array_length v w = 4 * (v * w)

-- the number at an index of an array
unfoldable pub entry : List ℕ → ℕ → ℤ
entry array index = signed_at 4 array (4 * index)

-- After the sizes there are V tops, signed 4-byte numbers.
unfoldable pub tops : List ℕ → List ℕ
tops plan = take (4 * channels plan) (drop sizes_length plan)

-- the top of a channel, where 0 means no top
unfoldable pub top_of : List ℕ → ℕ → ℤ
top_of plan channel = entry (tops plan) channel

-- the test is true of a number below n
unfoldable pub any_below : (ℕ → Bool) → ℕ → Bool
any_below f zero = false
any_below f (suc n) = any_below f n || f n

-- the top of a channel is negative; and none of v is
unfoldable pub negative_top : List ℕ → ℕ → Bool
negative_top array channel = not (non_neg (entry array channel))

unfoldable pub tops_fit : List ℕ → ℕ → Bool
tops_fit array v = not (any_below (negative_top array) v)

-- V is 1 to 8, P may be 0, C is at least 1, W is at most 256, L is 0 to 4. The length is 8 + 4 × V + 8 × V × (L + W). No top is
-- negative.
unfoldable pub sizes_fit : List ℕ → Bool
sizes_fit plan =
    leb sizes_length (length plan)
    && ((leb 1 (channels plan) && leb (channels plan) 8)
    && (leb 1 (cycle_rows plan)
    && (leb (rows plan) 256
    && (leb (lead_rows plan) 4
    && (eqb (length plan) (head_length (channels plan) + 2 * array_length (channels plan) (stored_rows plan))
    && tops_fit (tops plan) (channels plan))))))

-- Then two parallel arrays of (L + W) × V signed 4-byte numbers, row after row: readings, then drifts.
unfoldable pub readings : List ℕ → List ℕ
readings plan = take (array_length (channels plan) (stored_rows plan)) (drop (head_length (channels plan)) plan)

unfoldable pub drifts : List ℕ → List ℕ
drifts plan = take (array_length (channels plan) (stored_rows plan)) (drop (head_length (channels plan) + array_length (channels plan) (stored_rows plan)) plan)

-- the index of a row of an array and a channel, with v channels
unfoldable pub cell : ℕ → ℕ → ℕ → ℕ
cell v row channel = row * v + channel

-- the numbers of the k-th row that is stored
unfoldable pub stored_reading : List ℕ → ℕ → ℕ → ℤ
stored_reading plan k channel = entry (readings plan) (cell (channels plan) k channel)

unfoldable pub stored_drift : List ℕ → ℕ → ℕ → ℤ
stored_drift plan k channel = entry (drifts plan) (cell (channels plan) k channel)

-- Row 0 is stored behind the lead-in.
unfoldable pub reading_of : List ℕ → ℕ → ℕ → ℤ
reading_of plan row channel = stored_reading plan (lead_rows plan + row) channel

-- what the reading gains on each iteration of the loop
unfoldable pub drift_of : List ℕ → ℕ → ℕ → ℤ
drift_of plan row channel = stored_drift plan (lead_rows plan + row) channel
