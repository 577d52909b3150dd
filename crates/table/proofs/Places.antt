-- Where a mark lies in its table, and how large a table is. Assumes nothing.
use Prim.Native.Nat.{ℕ, ◌+◌, ◌*◌, ◌≤◌, ◌<◌}
use native.Mathlib.Nat.{mul-le-mul, mul-le-mul_right}
use native.Mathlib.Omega.{arith}

-- The mark of a part on a row is one of the marks.
pub cell : (n w part row : ℕ) → part < n → row < w → part * w + row < n * w
cell n w part row h l = let g : (part + 1) * w ≤ n * w = mul-le-mul_right w (omega arith) in omega arith

-- The marks of a part are among the marks.
pub part_cells : (n w part : ℕ) → part < n → part * w + w ≤ n * w
part_cells n w part h = let g : (part + 1) * w ≤ n * w = mul-le-mul_right w (omega arith) in omega arith

pub area : (n w : ℕ) → n ≤ 64 → w ≤ 256 → n * w ≤ 16384
area n w h l = mul-le-mul h l
