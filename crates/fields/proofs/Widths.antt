-- Unsigned fields of every width: a field read back is the number written, and written back it is the bytes read.
-- Assumes nothing.
use Prim.Native.Nat.{ℕ, zero, suc, ◌+◌, ◌*◌, ◌/◌, ◌%◌, ◌^◌, ◌≤◌, ◌<◌}
use native.Mathlib.Nat.{add-zero, pow-succ', pow-zero}
use native.Mathlib.Omega.{arith}
use native.Mathlib.Numerals.{add-one}
use mathlib.Core.Path.{◌≡◌, refl, sym, ap, ap₂, ◌∙◌}
use mathlib.Core.List.{List, [], ◌∷◌, ◌++◌, append_assoc}
use lib.ListN.{length, get_or, take, drop, length-append}
use lib.Seq.{drop-cons, get_or_at}
use Rattle.fields.specs.LittleEndian.{number_at, bytes_of}
use Rattle.fields.specs.inner.Ranges.{Bytes}

-- a number of w bytes is below 256 ^ w
pub number_lt : (w : ℕ) (s : List ℕ) (at : ℕ) → Bytes s → number_at w s at < 256 ^ w
unfolding number_at Bytes
number_lt zero s at b = omega arith
number_lt (suc w) s at b = omega (arith, number_lt w s (at + 1) b, b at, pow-succ' 256 w)

pub length_bytes : (w n : ℕ) → length (bytes_of w n) ≡ w
unfolding bytes_of
length_bytes zero n = refl
length_bytes (suc w) n = ap suc (length_bytes w (n / 256))

-- reading what was written gives the number
pub read_written : (w n : ℕ) (before after : List ℕ) (at : ℕ) → length before ≡ at → n < 256 ^ w → number_at w (before ++ (bytes_of w n ++ after)) at ≡ n
unfolding number_at bytes_of
read_written zero n before after at e h = omega (arith, pow-zero 256)
read_written (suc w) n before after at e h =
    let low : n / 256 < 256 ^ w = omega (arith, pow-succ' 256 w) in
    let here : get_or (before ++ (n % 256 ∷ (bytes_of w (n / 256) ++ after))) at 0 ≡ n % 256 = get_or_at before (n % 256) (bytes_of w (n / 256) ++ after) 0 at e in
    let rest : number_at w (before ++ (n % 256 ∷ (bytes_of w (n / 256) ++ after))) (at + 1) ≡ n / 256 =
    ap (λ (l : List ℕ). number_at w l (at + 1)) (sym (append_assoc before (n % 256 ∷ []) (bytes_of w (n / 256) ++ after)))
    ∙ read_written w (n / 256) (before ++ (n % 256 ∷ [])) after (at + 1) (length-append before (n % 256 ∷ []) ∙ ap (λ k. k + 1) e) low in
    omega (arith, here, rest)

-- a field whose bytes are those of a number is the number
pub number_of_bytes : (w n : ℕ) (s : List ℕ) (at : ℕ) → n < 256 ^ w → ((k : ℕ) → k < w → get_or s (at + k) 0 ≡ get_or (bytes_of w n) k 0) → number_at w s at ≡ n
unfolding number_at bytes_of
number_of_bytes zero n s at h same = omega (arith, pow-zero 256)
number_of_bytes (suc w) n s at h same =
    let low : n / 256 < 256 ^ w = omega (arith, pow-succ' 256 w) in
    let here : get_or s at 0 ≡ n % 256 = ap (λ (i : ℕ). get_or s i 0) (sym (add-zero at)) ∙ same 0 (omega arith) in
    let rest : number_at w s (at + 1) ≡ n / 256 = number_of_bytes w (n / 256) s (at + 1) low (λ k l. let next : at + 1 + k ≡ at + suc k = omega arith in
    ap (λ (i : ℕ). get_or s i 0) next ∙ same (suc k) (omega arith)) in
    omega (arith, here, rest)

-- fields of the same bytes are the same number
pub number_same : (w : ℕ) (s t : List ℕ) (at : ℕ) → ((k : ℕ) → k < w → get_or s (at + k) 0 ≡ get_or t (at + k) 0) → number_at w s at ≡ number_at w t at
unfolding number_at
number_same zero s t at same = refl
number_same (suc w) s t at same =
    ap₂ (λ (x y : ℕ). x + 256 * y)
    (ap (λ (i : ℕ). get_or s i 0) (sym (add-zero at)) ∙ same 0 (omega arith) ∙ ap (λ (i : ℕ). get_or t i 0) (add-zero at))
    (number_same w s t (at + 1) (λ k l. let next : at + 1 + k ≡ at + suc k = omega arith in
    ap (λ (i : ℕ). get_or s i 0) next ∙ same (suc k) (omega arith) ∙ ap (λ (i : ℕ). get_or t i 0) (sym next)))

-- writing what was read leaves the bytes
pub written_read : (w : ℕ) (s : List ℕ) (at : ℕ) → Bytes s → at + w ≤ length s → bytes_of w (number_at w s at) ≡ take w (drop at s)
unfolding number_at bytes_of Bytes
written_read zero s at b h = refl
written_read (suc w) s at b h =
    let low : (get_or s at 0 + 256 * number_at w s (at + 1)) % 256 ≡ get_or s at 0 = omega (arith, b at) in
    let high : (get_or s at 0 + 256 * number_at w s (at + 1)) / 256 ≡ number_at w s (at + 1) = omega (arith, b at) in
    ap₂ (λ (x : ℕ) (l : List ℕ). x ∷ l) low (ap (bytes_of w) high ∙ written_read w s (at + 1) b (omega arith) ∙ ap (λ (i : ℕ). take w (drop i s)) (add-one at))
    ∙ sym (ap (take (suc w)) (drop-cons s at 0 (omega arith)))

-- the fields of two, of four and of eight bytes, byte by byte
pub number2 : (s : List ℕ) (at : ℕ) → number_at 2 s at ≡ get_or s at 0 + 256 * get_or s (at + 1) 0
unfolding number_at
number2 s at = omega arith

pub number4 : (s : List ℕ) (at : ℕ) → number_at 4 s at ≡ get_or s at 0 + 256 * get_or s (at + 1) 0 + 65536 * get_or s (at + 2) 0 + 16777216 * get_or s (at + 3) 0
unfolding number_at
number4 s at =
    let two : at + 1 + 1 ≡ at + 2 = omega arith in
    let three : at + 1 + 1 + 1 ≡ at + 3 = omega arith in
    omega (arith, ap (λ (i : ℕ). get_or s i 0) two, ap (λ (i : ℕ). get_or s i 0) three)

pub number8 : (s : List ℕ) (at : ℕ) → number_at 8 s at
    ≡ get_or s at 0 + 256 * get_or s (at + 1) 0 + 65536 * get_or s (at + 2) 0 + 16777216 * get_or s (at + 3) 0
    + 4294967296 * get_or s (at + 4) 0 + 1099511627776 * get_or s (at + 5) 0 + 281474976710656 * get_or s (at + 6) 0 + 72057594037927936 * get_or s (at + 7) 0
unfolding number_at
number8 s at =
    let two : at + 1 + 1 ≡ at + 2 = omega arith in
    let three : at + 1 + 1 + 1 ≡ at + 3 = omega arith in
    let four : at + 1 + 1 + 1 + 1 ≡ at + 4 = omega arith in
    let five : at + 1 + 1 + 1 + 1 + 1 ≡ at + 5 = omega arith in
    let six : at + 1 + 1 + 1 + 1 + 1 + 1 ≡ at + 6 = omega arith in
    let seven : at + 1 + 1 + 1 + 1 + 1 + 1 + 1 ≡ at + 7 = omega arith in
    omega (arith, ap (λ (i : ℕ). get_or s i 0) two, ap (λ (i : ℕ). get_or s i 0) three, ap (λ (i : ℕ). get_or s i 0) four, ap (λ (i : ℕ). get_or s i 0) five, ap (λ (i : ℕ). get_or s i 0) six, ap (λ (i : ℕ). get_or s i 0) seven)
