-- What the kept readings show of the rows since a rule was added. Assumes nothing.
use Prim.Native.Nat.{ℕ, zero, suc, ◌+◌, ◌*◌, ◌-◌, ◌%◌, ◌≤◌, ◌<◌, min}
use native.Mathlib.Decide.{dec_lt}
use native.Mathlib.Omega.{arith}
use mathlib.Core.Path.{◌≡◌, refl, sym, ap, ap₂, ◌∙◌}
use mathlib.Core.Bool.{Bool, true, false, cond, not, ◌&&◌, false≢true}
use mathlib.Core.Logic.{by_cases}
use mathlib.Core.List.{List, [], ◌∷◌}
use lib.Dec.{leb, eqb}
use lib.ListN.{length, get_or}
use lib.IntN.{ℤ, pos, negsuc, sub_ℕ, ◌+ℤ◌}
use lib.Signed.{le_z, non_neg}
use borrow.Author.Tests.{lt-ltb, le-ltb, le-leb, lt-leb, ne_eqb, ltb-false, not-false}
use Rattle.fields.specs.LittleEndian.{number_at}
use Rattle.fields.specs.TwosComplement.{signed_of, signed_at}
use Rattle.fields.specs.inner.Ranges.{Bytes}
use Rattle.fields.proofs.Bias.{biased_signed}
use Rattle.fields.proofs.Differences.{sub_pos, sub_neg}
use Rattle.fields.proofs.Patterns.{signed_low, signed_high}
use Rattle.fields.proofs.Widths.{number_lt}
use Rattle.cltlb.specs.Run.{Seen, pinned, is_top, is_pinned, under}
use Rattle.cltlb.specs.Fits.{shift_fits}
use Rattle.cltlb.proofs.Fits.{shift_in}
use Rattle.rule.specs.Terms.{code_of}
use Rattle.plan.specs.Layout.{entry, negative_top, tops_fit}
use Rattle.plan.proofs.Fits.{none_negative}
use Rattle.past.specs.Ahead.{shift_ahead}
use Rattle.past.specs.Rows.{Row, run_of}
use Rattle.past.proofs.Step.{row_back}
use Rattle.past.proofs.NewestRow.{present_row, older_row, no_row}
use Rattle.live.specs.Kept.{kept, pinned_kept, unseen, seen_of, kept_under, new_reading, reading_after, readings_after}
use Rattle.live.specs.Truths.{reading_at}
use Rattle.live.specs.State.{older}
use Rattle.live.specs.Calls.{row_seen}
use Rattle.live.proofs.Filling.{tab_get}
use Rattle.live.proofs.SheetTruths.{seen_kept, seen_kept_lem}

-- ---- a reading under its top

module _ (top n : ℕ) where
  top_tested : le_z (pos top) (sub_ℕ n 2147483648) ≡ leb (top + 2147483648) n
  top_tested =
      by_cases (dec_lt n 2147483648)
      (λ l. ap (le_z (pos top)) (sub_neg n 2147483648 l) ∙ sym (lt-leb (top + 2147483648) n (omega arith)))
      (λ l. ap (le_z (pos top)) (sub_pos n 2147483648 (omega arith)) ∙ by_cases (dec_lt n (top + 2147483648))
      (λ k. lt-leb top (n - 2147483648) (omega arith) ∙ sym (lt-leb (top + 2147483648) n k))
      (λ k. le-leb top (n - 2147483648) (omega arith) ∙ sym (le-leb (top + 2147483648) n (omega arith))))

seen_pushed : (b : Bool) (n : ℕ) → seen_of (cond b pinned_kept n) ≡ cond b pinned (seen_of n)
unfolding seen_of
seen_pushed true n = refl
seen_pushed false n = refl

under_kept : (top p : ℕ) → p < 4294967296 → seen_of (kept_under top (kept p)) ≡ under (pos top) (signed_of 4 p)
unfolding kept_under under is_pinned is_top kept
under_kept top p h =
    let e : sub_ℕ ((p + 2147483648) % 4294967296) 2147483648 ≡ signed_of 4 p = biased_signed 4 2147483648 p refl h in
    seen_pushed (not (eqb top 0) && leb (top + 2147483648) ((p + 2147483648) % 4294967296)) ((p + 2147483648) % 4294967296)
    ∙ ap₂ (λ (b : Bool) (x : Seen). cond (not (eqb top 0) && b) pinned x)
    (sym (top_tested top ((p + 2147483648) % 4294967296)) ∙ ap (le_z (pos top)) e)
    (seen_kept_lem p h)

-- a pattern of four bytes that stands for no negative number
top_plain : (n : ℕ) → n < 4294967296 → non_neg (signed_of 4 n) ≡ true → signed_of 4 n ≡ pos n
top_plain n h e =
    by_cases (dec_lt n 2147483648)
    (λ l. sym (signed_low 4 n (omega arith)))
    (λ l. absurd (false≢true (ap non_neg (signed_high 4 n (4294967296 - suc n) (omega arith) (omega arith)) ∙ e)))

-- ---- one row more

-- Of the rows since the add the newest five are kept, and of these the v channels count.
unfoldable pub Keeps : ℕ → List Row → List ℕ → Type 0
Keeps v rows readings = (k c : ℕ) → k < 5 → k < length rows → c < v → seen_of (get_or readings (8 * (4 - k) + c) 0) ≡ row_back rows k c

pub none_kept : (v : ℕ) (readings : List ℕ) → Keeps v [] readings
unfolding Keeps
none_kept v readings k c h l g = absurd (omega arith)

module _ (v : ℕ) (few : v ≤ 8) (tops stops : List ℕ) (fit : tops_fit tops v ≡ true) (top_bytes : Bytes tops)
    (kept_tops : (c : ℕ) → c < v → get_or stops c 0 ≡ number_at 4 tops (4 * c)) (bytes : List ℕ) (row_bytes_lem : Bytes bytes) (readings : List ℕ) where
  top_is : (c : ℕ) → c < v → entry tops c ≡ pos (number_at 4 tops (4 * c))
  unfolding entry signed_at negative_top
  top_is c h =
      top_plain (number_at 4 tops (4 * c)) (number_lt 4 tops (4 * c) top_bytes)
      (not-false (non_neg (signed_of 4 (number_at 4 tops (4 * c)))) (none_negative tops v fit c h))

  new_kept : (c : ℕ) → c < v → get_or (readings_after readings stops bytes v) (8 * (4 - 0) + c) 0 ≡ kept_under (number_at 4 tops (4 * c)) (kept (number_at 4 bytes (4 * c)))
  unfolding readings_after reading_after new_reading
  new_kept c h =
      let e : 32 + c - 32 ≡ c = omega arith in
      tab_get 40 (reading_after readings stops bytes v) (32 + c) (omega arith)
      ∙ simp (le-ltb (32 + c) 32 (omega arith), e, lt-ltb c v h, kept_tops c h)

  old_kept : (k c : ℕ) → suc k < 5 → c < v → get_or (readings_after readings stops bytes v) (8 * (4 - suc k) + c) 0 ≡ get_or readings (8 * (4 - k) + c) 0
  unfolding readings_after reading_after
  old_kept k c l h =
      let low : 8 * (4 - suc k) + c < 32 = omega arith in
      let e : 8 * (4 - suc k) + c + 8 ≡ 8 * (4 - k) + c = omega arith in
      tab_get 40 (reading_after readings stops bytes v) (8 * (4 - suc k) + c) (omega arith)
      ∙ simp (lt-ltb (8 * (4 - suc k) + c) 32 low, e)

  pub keeps_on : (rows : List Row) → Keeps v rows readings → Keeps v (row_seen tops bytes ∷ rows) (readings_after readings stops bytes v)
  unfolding Keeps row_back row_seen entry signed_at
  keeps_on rows keeps zero c l k h =
      ap seen_of (new_kept c h) ∙ under_kept (number_at 4 tops (4 * c)) (number_at 4 bytes (4 * c)) (number_lt 4 bytes (4 * c) row_bytes_lem)
      ∙ ap (λ (x : ℤ). under x (entry bytes c)) (sym (top_is c h))
  keeps_on rows keeps (suc n) c l k h = ap seen_of (old_kept n c l h) ∙ keeps n c (omega arith) (omega arith) h

-- ---- the age

pub age_on : (n : ℕ) → older (min 5 n) ≡ min 5 (suc n)
unfolding older
age_on n =
    by_cases (dec_lt (min 5 n) 4)
    (λ l. simp (lt-ltb (min 5 n) 4 l) (omega arith))
    (λ l. simp (le-ltb (min 5 n) 4 (omega arith)) (omega arith))

pub age_first : (n : ℕ) → eqb (min 5 (suc n)) 1 ≡ eqb n 0
age_first n =
    by_cases (dec_lt n 1)
    (λ l. let e : n ≡ 0 = omega arith in rw e refl)
    (λ l. ne_eqb (min 5 (suc n)) 1 (λ e. absurd (omega arith)) ∙ sym (ne_eqb n 0 (λ e. absurd (omega arith))))

-- ---- what is seen

reading_kept : (readings : List ℕ) (age at : ℕ) → 40 - 8 * age ≤ at → at < 40 → reading_at readings age at ≡ get_or readings at 0
unfolding reading_at
reading_kept readings age at h l = simp (le-ltb at (40 - 8 * age) h, lt-leb 40 at l)

reading_unseen : (readings : List ℕ) (age at : ℕ) → at < 40 - 8 * age → reading_at readings age at ≡ unseen
unfolding reading_at
reading_unseen readings age at h = simp (lt-ltb at (40 - 8 * age) h)

module _ (v : ℕ) (few : v ≤ 8) (row : Row) (rows : List Row) (readings : List ℕ) (keeps : Keeps v (row ∷ rows) readings) (age : ℕ)
    (age_is : age ≡ min 5 (suc (length rows))) where
  now_shown : (c : ℕ) → c < v → seen_of (reading_at readings age (8 * 4 + c)) ≡ run_of (row ∷ rows) c (pos (length rows) +ℤ pos 0)
  unfolding Keeps row_back
  now_shown c h = ap seen_of (reading_kept readings age (8 * 4 + c) (omega arith) (omega arith)) ∙ keeps 0 c (omega arith) (omega arith) h ∙ sym (present_row row rows c)

  past_shown : (c k : ℕ) → c < v → k < 4 → seen_of (reading_at readings age (8 * (3 - k) + c)) ≡ run_of (row ∷ rows) c (pos (length rows) +ℤ negsuc k)
  unfolding Keeps seen_of
  past_shown c k h l =
      by_cases (dec_lt k (length rows))
      (λ there.
      let e : 8 * (3 - k) + c ≡ 8 * (4 - suc k) + c = omega arith in
      ap seen_of (reading_kept readings age (8 * (3 - k) + c) (omega arith) (omega arith)) ∙ ap (λ (x : ℕ). seen_of (get_or readings x 0)) e
      ∙ keeps (suc k) c (omega arith) (omega arith) h ∙ sym (older_row row rows c k (omega arith)))
      (λ none. ap seen_of (reading_unseen readings age (8 * (3 - k) + c) (omega arith)) ∙ sym (no_row row rows c k (omega arith)))

  -- What is kept shows what the run of the rows shows, at every shift that is not ahead.
  pub kept_sees : (c : ℕ) → c < v → (shift : ℤ) → shift_fits shift ≡ true → shift_ahead shift ≡ false
      → seen_kept readings age c shift ≡ run_of (row ∷ rows) c (pos (length rows) +ℤ shift)
  unfolding seen_kept code_of shift_ahead
  kept_sees c h (pos zero) f p = now_shown c h
  kept_sees c h (pos (suc n)) f p = absurd (omega (arith, ltb-false 0 (suc n) p))
  kept_sees c h (negsuc k) f p = past_shown c k h (shift_in (negsuc k) f)
