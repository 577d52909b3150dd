-- Windows on a stretch of rows with the same drifts: shares of a spacing by products, and the marks of the stretch. Assumes nothing.
use Prim.Native.Nat.{ℕ, ◌+◌, ◌*◌, ◌-◌, ◌/◌, ◌%◌, ◌∣◌, min, ◌≤◌, ◌<◌}
use native.Mathlib.Nat.{div-add-mod', mod-lt, div-mul_cancel, mod-mod_of_dvd, mul-le-mul_left, mul-le-mul_right}
use native.Mathlib.Decide.{dec_lt}
use native.Mathlib.Omega.{arith}
use mathlib.Core.Path.{◌≡◌, refl, sym, ap, ap₂, ◌∙◌}
use mathlib.Core.Bool.{Bool, true, false, not, ◌&&◌, ◌||◌, and-eq-true_iff}
use mathlib.Core.Logic.{by_cases}
use mathlib.Core.List.{List}
use lib.Dec.{ltb, eqb}
use lib.IntN.{ℤ, sub_ℕ}
use borrow.Author.Tests.{lt-ltb, le-ltb}
use Rattle.cltlb.specs.Week.{week, minute_of}
use Rattle.fields.specs.inner.Biased.{bias, patterns, unbiased}
use Rattle.table.specs.inner.Tables.{all_below, mark_in}
use Rattle.table.proofs.AllBelow.{all_ext, all_each}
use Rattle.verdict.specs.Comparisons.{test_of}
use Rattle.verdict.specs.Lines.{eq_z}
use Rattle.verdict.specs.Weeks.{judge_spaced, judge_within}
use Rattle.verdict.specs.declared.Relation.TheVariants.{Same, Within}
use Rattle.verdict.specs.declared.Verdict.{Verdict}
use Rattle.verdict.proofs.Decisions.{Decides, eq_decides}
use Rattle.verdict.proofs.Euclid.{common_step}
use Rattle.verdict.proofs.Minutes.{minute_sub, within_spaced}
use Rattle.lanes.specs.declared.columns.Column.{Column}
use Rattle.lanes.specs.declared.weeks.Spacing.{Spacing}
use Rattle.lanes.specs.inner.Agreement.{line_from, verdict_agrees, values_agree, lines_agree}
use Rattle.lanes.specs.inner.Columns.{number_in, drift_in}
use Rattle.lanes.specs.inner.Spacing.{Spaces, share_of, Shares, HaveDrifts, SameDrifts, same_drifts, spaced_says}
use Rattle.lanes.proofs.Comparing.{numbers_same, level_numbers, spaced_agrees}

-- ---- shares of a spacing

-- two tests of which each follows from the other
same_test : (a b c d : ℕ) → (a < b → c < d) → (c < d → a < b) → ltb a b ≡ ltb c d
same_test a b c d f g =
    by_cases (dec_lt a b)
    (λ h. lt-ltb a b h ∙ sym (lt-ltb c d (f h)))
    (λ h. le-ltb a b (omega arith) ∙ sym (le-ltb c d (by_cases (dec_lt c d) (λ l. absurd (h (g l))) (λ l. omega arith))))

-- the spacing divides the week
spacing_of_week : (s : Spacing) {minutes left right : ℕ} → Spaces minutes left right s → s.apart ∣ week
spacing_of_week s {left = left} {right = right} h = rw h.apart_is (common_step (minute_of (sub_ℕ left right))).of_week

-- i is the inverse of g, o what is left over, and r the rest in shares: two products of a number are nearly so many spacings
products : (a g i o r p : ℕ) → a < 4294967296 → i * g + o ≡ 4294967296 → r * g ≤ o * 4294967296 → o * 4294967296 ≤ r * g + 65536 * g
    → p ≡ a * r / 4294967296 → ((a * i + p) * g ≤ a * 4294967296) × (a * 4294967296 ≤ (a * i + p) * g + 65537 * g)
products a g i o r p ha io low high e =
    let whole : a * (i * g + o) ≡ a * 4294967296 = ap (λ (z : ℕ). a * z) io in
    let under : p * 4294967296 ≤ a * r = omega arith in
    let above : a * r ≤ p * 4294967296 + 4294967296 = omega arith in
    let under_g : p * 4294967296 * g ≤ a * r * g = mul-le-mul_right {m = p * 4294967296} {n = a * r} g under in
    let above_g : a * r * g ≤ (p * 4294967296 + 4294967296) * g = mul-le-mul_right {m = a * r} {n = p * 4294967296 + 4294967296} g above in
    let low_a_lem : a * (r * g) ≤ a * (o * 4294967296) = mul-le-mul_left {m = r * g} {n = o * 4294967296} a low in
    let high_a : a * (o * 4294967296) ≤ a * (r * g + 65536 * g) = mul-le-mul_left {m = o * 4294967296} {n = r * g + 65536 * g} a high in
    let few : a * g ≤ 4294967296 * g = mul-le-mul_right {m = a} {n = 4294967296} g (omega arith) in
    (omega arith, omega arith)

-- A product of two numbers of 32 bits leaves room for one more of them in 64.
pub product_small : (a i : ℕ) → a < 4294967296 → i < 4294967296 → a * i ≤ 18446744065119617025
product_small a i h k =
    let few : a * i ≤ a * 4294967295 = mul-le-mul_left {m = i} {n = 4294967295} a (omega arith) in
    let most : a * 4294967295 ≤ 4294967295 * 4294967295 = mul-le-mul_right {m = a} {n = 4294967295} 4294967295 (omega arith) in
    omega arith

-- One number below a multiple of the spacing in two ways is one number.
turned_once : (g p q m n : ℕ) → m + 4294967296 * (p * g) ≡ 4294967296 * (q * g) + n → m < 4294967296 * g → n < 4294967296 * g → m ≡ n
turned_once g p q m n e hm hn =
    by_cases (dec_lt p q)
    (λ l. let h : (p + 1) * g ≤ q * g = mul-le-mul_right {m = p + 1} {n = q} g (omega arith) in absurd (omega arith))
    (λ l. by_cases (dec_lt q p)
    (λ u. let h : (q + 1) * g ≤ p * g = mul-le-mul_right {m = q + 1} {n = p} g (omega arith) in absurd (omega arith))
    (λ u. let z : p * g ≡ q * g = ap (λ (y : ℕ). y * g) (omega arith) in omega arith))

-- The share of a difference, by what the products of the two numbers are: t spacings are a week.
module _ (g : ℕ) (h1 : 1 ≤ g) (hg : g ≤ 10080) where
  difference : (a b A B t q l f P S : ℕ) → t * g ≡ 10080 → a + b * 10079 ≡ q * g + l → l < g
      → A * g ≤ a * 4294967296 → a * 4294967296 ≤ A * g + 65537 * g → B * g ≤ b * 4294967296 → b * 4294967296 ≤ B * g + 65537 * g
      → f < 4294967296 → f + B + 4294967296 * P ≡ A + 65537 + 4294967296 * S → Shares g l f
  difference a b A B t q l f P S week is few la ha lb hb hf e =
      let weeks : b * (t * g) ≡ b * 10080 = ap (λ (z : ℕ). b * z) week in
      let times : (f + B + 4294967296 * P) * g ≡ (A + 65537 + 4294967296 * S) * g = ap (λ (z : ℕ). z * g) e in
      let small : (f + 1) * g ≤ 4294967296 * g = mul-le-mul_right {m = f + 1} {n = 4294967296} g (omega arith) in
      let one : f * g ≡ l * 4294967296 + (b * 4294967296 - B * g) + (65537 * g - (a * 4294967296 - A * g)) =
      turned_once g (P + b * t) (S + q) (f * g) (l * 4294967296 + (b * 4294967296 - B * g) + (65537 * g - (a * 4294967296 - A * g))) (omega arith) (omega arith) (omega arith) in
      record { low = omega arith; high = omega arith }

  shared : (a b A B t q l : ℕ) → t * g ≡ 10080 → a + b * 10079 ≡ q * g + l → l < g
      → (A * g ≤ a * 4294967296) × (a * 4294967296 ≤ A * g + 65537 * g) → (B * g ≤ b * 4294967296) × (b * 4294967296 ≤ B * g + 65537 * g)
      → {f : ℕ} → f ≡ (A % 4294967296 + (4295032833 - B % 4294967296)) % 4294967296 → Shares g l f
  shared a b A B t q l week is few ha hb {f} e =
      difference a b A B t q l f ((A % 4294967296 + (4295032833 - B % 4294967296)) / 4294967296 + A / 4294967296) (B / 4294967296 + 1) week is few
      ha.0 ha.1 hb.0 hb.1 (omega arith) (omega arith)

  -- A share is below so many inverses where its minutes are fewer.
  bounded : (n l f i : ℕ) {T : ℕ} → n ≤ g → i * g < 4294967296 → 4294967296 ≤ i * g + g → Shares g l f → T ≡ n * i → ltb f T ≡ ltb l n
  bounded n l f i {T} few low high s e =
      same_test f T l n
      (λ u. by_cases (dec_lt l n) (λ v. v) (λ v. absurd (not_below (omega arith) u)))
      (λ u. by_cases (dec_lt f T) (λ v. v) (λ v. absurd (not_above u (omega arith))))
    where
      times : T * g ≡ n * i * g
      times = ap (λ (z : ℕ). z * g) e

      under : n * (i * g) ≤ n * 4294967296
      under = mul-le-mul_left {m = i * g} {n = 4294967296} n (omega arith)

      above : n * 4294967296 ≤ n * (i * g + g)
      above = mul-le-mul_left {m = 4294967296} {n = i * g + g} n high

      square : n * g ≤ 10080 * g
      square = mul-le-mul_right {m = n} {n = 10080} g (omega arith)

      not_above : l < n → T ≤ f → ⊥
      not_above u v = let h : T * g ≤ f * g = mul-le-mul_right {m = T} {n = f} g v in omega (arith, times, above, square, s.high)

      not_below : n ≤ l → f < T → ⊥
      not_below u v = let h : (f + 1) * g ≤ T * g = mul-le-mul_right {m = f + 1} {n = T} g (omega arith) in omega (arith, times, under, s.low)

module _ (s : Spacing) {minutes left right : ℕ} (k : Spaces minutes left right s) where
  -- The share of one number after another,
  pub share_after : (a b : ℕ) {p q f : ℕ} → a < patterns → b < patterns → p ≡ share_of s a → q ≡ share_of s b → f ≡ (p + (4295032833 - q)) % 4294967296
      → Shares s.apart (minute_of (sub_ℕ a b) % s.apart) f
  share_after a b ha hb e g h =
      let d = spacing_of_week s k in
      shared s.apart k.some k.few a b _ _ (10080 / s.apart) ((a + b * 10079) / s.apart) (minute_of (sub_ℕ a b) % s.apart) (div-mul_cancel s.apart d)
      (rw (minute_sub a b, mod-mod_of_dvd s.apart (a + b * 10079) d) (sym (div-add-mod' (a + b * 10079) s.apart)))
      (mod-lt (minute_of (sub_ℕ a b)) k.some)
      (product a ha) (product b hb)
      (h ∙ ap₂ (λ (x y : ℕ). (x + (4295032833 - y)) % 4294967296) e g)
    where
      product : (a : ℕ) → a < patterns → ((a * s.inverse + a * s.rest / 4294967296) * s.apart ≤ a * 4294967296) × (a * 4294967296 ≤ (a * s.inverse + a * s.rest / 4294967296) * s.apart + 65537 * s.apart)
      product a h =
          products a s.apart s.inverse (4294967296 - s.inverse * s.apart) s.rest _ h (let low = k.inverse_low in omega arith) k.rest_low k.rest_high refl

  -- and the verdict that it gives.
  pub share_agrees : (l f : ℕ) (mark : Bool) → l < s.apart → Shares s.apart l f
      → ((mark && ltb f s.always) || not (mark || ltb f s.once)) ≡ verdict_agrees (judge_spaced minutes s.apart l) mark
  share_agrees l f mark h i =
      rw (late, early) (spaced_agrees minutes s.apart l mark)
    where
      few : s.apart ≤ 10080
      few = k.few

      bound : (n : ℕ) {T : ℕ} → n ≤ s.apart → T ≡ n * s.inverse → ltb f T ≡ ltb l n
      bound n g e = bounded s.apart k.some k.few n l f s.inverse g k.inverse_low k.inverse_high i e

      late : ltb f s.always ≡ ltb (l + (10080 - s.apart)) minutes
      late =
          bound (min minutes 10080 - (10080 - s.apart)) (omega (arith, few)) k.always_is
          ∙ same_test l _ (l + (10080 - s.apart)) minutes (λ u. omega (arith, few)) (λ u. omega (arith, few))

      early : ltb f s.once ≡ ltb l minutes
      early = bound (min minutes s.apart) (omega arith) k.once_is ∙ same_test l _ l minutes (λ u. omega arith) (λ u. omega arith)

-- and what it says of two lines
pub lines_agree_by : (a b : ℕ) (s : Spacing) (mark : Bool) → Spaces s.minutes s.left s.right s → {r : Bool}
    → r ≡ verdict_agrees (judge_spaced s.minutes s.apart (minute_of (sub_ℕ a b) % s.apart)) mark
    → r ≡ verdict_agrees (judge_within s.minutes (line_from a s.left) (line_from b s.right)) mark
lines_agree_by a b s mark known i = i ∙ ap (λ (v : Verdict). verdict_agrees v mark) (within_spaced s.minutes bias bias a s.left b s.right refl known.apart_is refl)

-- ---- the spacing that is found

module _ (g : ℕ) (h1 : 1 ≤ g) {i : ℕ} (e : i ≡ 4294967295 / g) where
  pub inverse_is : (i * g < 4294967296) × (4294967296 ≤ i * g + g)
  inverse_is = let h : i * g ≡ 4294967295 / g * g = ap (λ (z : ℕ). z * g) e in let r = mod-lt 4294967295 h1 in (omega (arith, div-add-mod' 4294967295 g), omega (arith, div-add-mod' 4294967295 g))

  pub inverse_small : i < 4294967296
  inverse_small = let one : i * 1 ≤ i * g = mul-le-mul_left {m = 1} {n = g} i h1 in omega (arith, inverse_is)

  -- so many minutes in shares
  pub bound_small : (n : ℕ) → n ≤ g → n * i < 4294967296
  bound_small n h = let few : n * i ≤ g * i = mul-le-mul_right {m = n} {n = g} i h in omega (arith, inverse_is)

  module _ {o : ℕ} (f : o ≡ 4294967296 - i * g) where
    pub over_some : (1 ≤ o) × (o ≤ g)
    over_some = (omega (arith, inverse_is), omega (arith, inverse_is))

    module _ {c : ℕ} (u : c ≡ (o * 65536 - 1) / g) where
      parts : (c * g < o * 65536) × (o * 65536 ≤ c * g + g)
      parts =
          let h : c * g ≡ (o * 65536 - 1) / g * g = ap (λ (z : ℕ). z * g) u in
          let r = mod-lt (o * 65536 - 1) h1 in
          (omega (arith, over_some, div-add-mod' (o * 65536 - 1) g), omega (arith, over_some, div-add-mod' (o * 65536 - 1) g))

      pub rest_small : c < 65536
      rest_small = by_cases (dec_lt c 65536) (λ l. l) (λ l. let h : 65536 * g ≤ c * g = mul-le-mul_right {m = 65536} {n = c} g (omega arith) in absurd (omega (arith, parts, over_some)))

      pub rest_is : (c * 65536 * g ≤ (4294967296 - i * g) * 4294967296) × ((4294967296 - i * g) * 4294967296 ≤ c * 65536 * g + 65536 * g)
      rest_is = rw (← f) (omega (arith, parts), omega (arith, parts))

-- ---- stretches

-- A spacing is that of its own minutes and steps.
pub spaces_own : {minutes left right : ℕ} {s : Spacing} → Spaces minutes left right s → Spaces s.minutes s.left s.right s
spaces_own h = record {
  minutes_is = refl;
  left_is = refl;
  right_is = refl;
  apart_is = rw (h.left_is, h.right_is) h.apart_is;
  some = h.some;
  few = h.few;
  inverse_low = h.inverse_low;
  inverse_high = h.inverse_high;
  rest_low = h.rest_low;
  rest_high = h.rest_high;
  always_is = rw h.minutes_is h.always_is;
  once_is = rw h.minutes_is h.once_is;
}

-- what a sweep with a spacing says, of its minutes and steps
spaced_as : (values : List ℕ) (x y : Column) (table : List ℕ) (m from count : ℕ) {minutes left right : ℕ} {s : Spacing} → Spaces minutes left right s
    → all_below (λ k. spaced_says values s.minutes s.left s.right x y table m (from + k)) count
    ≡ all_below (λ k. spaced_says values minutes left right x y table m (from + k)) count
spaced_as values x y table m from count {left = left} {right = right} {s = s} h =
    ap₂ (λ (p q : ℕ). all_below (λ k. spaced_says values s.minutes p q x y table m (from + k)) count) h.left_is h.right_is
    ∙ ap (λ (n : ℕ). all_below (λ k. spaced_says values n left right x y table m (from + k)) count) h.minutes_is

-- The stretch, by the drifts of its rows.
module _ (values drifts : List ℕ) (n : ℕ) (x y : Column) (table : List ℕ) (m : ℕ) {left right : ℕ} (from to : ℕ) (s : SameDrifts drifts x y left right from to) where
  lines_say_lem : all_below (λ k. spaced_says values n left right x y table m (from + k)) (to - from)
      ≡ all_below (λ k. lines_agree (Within n) values drifts x y (mark_in table (m + (from + k))) (from + k)) (to - from)
  unfolding HaveDrifts
  lines_say_lem =
      all_ext _ _ (to - from) (λ k l.
      let d = s.same (from + k) (omega arith) (omega arith) in
      ap₂ (λ (p q : ℤ). verdict_agrees (judge_within n (record { at = number_in values x (from + k); step = p }) (record { at = number_in values y (from + k); step = q })) (mark_in table (m + (from + k))))
      d.0 d.1)

  pub stretch_says : {known : Spacing} → Spaces n left right known → {r : Bool}
      → r ≡ all_below (λ k. spaced_says values known.minutes known.left known.right x y table m (from + k)) (to - from)
      → r ≡ all_below (λ k. lines_agree (Within n) values drifts x y (mark_in table (m + (from + k))) (from + k)) (to - from)
  stretch_says h e = e ∙ spaced_as values x y table m from (to - from) h ∙ lines_say_lem

-- Lines that do not drift, by their numbers alone.
pub levels_say : (values : List ℕ) (n : ℕ) (x y : Column) (table : List ℕ) (m count : ℕ) {known : Spacing} → Spaces n bias bias known → {r : Bool}
    → r ≡ all_below (λ k. spaced_says values known.minutes known.left known.right x y table m (0 + k)) (count - 0)
    → r ≡ all_below (λ k. values_agree (Within n) values x y (mark_in table (m + k)) k) count
levels_say values n x y table m count h e =
    e
    ∙ spaced_as values x y table m 0 (count - 0) h
    ∙ all_ext _ _ (count - 0) (λ k l.
    let z : 0 + k ≡ k = omega arith in
    ap (spaced_says values n bias bias x y table m) z ∙ sym (level_numbers (Within n) (number_in values x k) (number_in values y k) (mark_in table (m + k))))
    ∙ ap (all_below (λ k. values_agree (Within n) values x y (mark_in table (m + k)) k)) (omega arith)

eq_z-true : (a b : ℤ) → eq_z a b ≡ true → a ≡ b
unfolding Decides
eq_z-true a b = (eq_decides a b).0

-- Two drifts are those of two steps.
pub drifts_said : (p q left right : ℕ) {x y : ℤ} → unbiased p ≡ x → unbiased q ≡ y → (eqb p left && eqb q right) ≡ (test_of Same x (unbiased left) && test_of Same y (unbiased right))
drifts_said p q left right e f = ap₂ ◌&&◌ (numbers_same p left e refl) (numbers_same q right f refl)

-- Drifts that are the same so far.
module _ (drifts : List ℕ) (x y : Column) (left right from : ℕ) where
  -- of no row, and of one more
  pub have_none : HaveDrifts drifts x y left right from from
  unfolding HaveDrifts
  have_none k h l = absurd (omega arith)

  have_next : (end : ℕ) → HaveDrifts drifts x y left right from end → unbiased left ≡ drift_in drifts x end → unbiased right ≡ drift_in drifts y end
      → HaveDrifts drifts x y left right from (end + 1)
  unfolding HaveDrifts
  have_next end s e f k h l = by_cases (dec_lt k end) (s k h) (λ n. let z : end ≡ k = omega arith in (e ∙ ap (drift_in drifts x) z, f ∙ ap (drift_in drifts y) z))

  pub same_first : unbiased left ≡ drift_in drifts x from → unbiased right ≡ drift_in drifts y from → SameDrifts drifts x y left right from (from + 1)
  same_first e f = record { on = omega arith; same = have_next from have_none e f }

  pub same_next : (end : ℕ) → SameDrifts drifts x y left right from end → unbiased left ≡ drift_in drifts x end → unbiased right ≡ drift_in drifts y end
      → SameDrifts drifts x y left right from (end + 1)
  same_next end s e f = record { on = (let h = s.on in omega arith); same = have_next end s.same e f }

  -- several rows more, of which a sweep says so
  pub same_block : (end next : ℕ) (all : Bool) → SameDrifts drifts x y left right from end → end ≤ next
      → all ≡ all_below (λ k. same_drifts drifts x y left right (end + k)) (next - end) → not all ≡ false → SameDrifts drifts x y left right from next
  unfolding HaveDrifts
  same_block end next all s g h e = record {
    on = (let l = s.on in omega arith);
    same = λ k l u. by_cases (dec_lt k end) (s.same k l) (λ n.
        let i : end + (k - end) ≡ k = omega arith in
        let both = (and-eq-true_iff _ _).0 (all_each (λ j. same_drifts drifts x y left right (end + j)) (next - end) (sym h ∙ yes all e) (k - end) (omega arith)) in
        (sym (eq_z-true _ _ both.0) ∙ ap (drift_in drifts x) i, sym (eq_z-true _ _ both.1) ∙ ap (drift_in drifts y) i));
  }
    where
      yes : (b : Bool) → not b ≡ false → b ≡ true
      yes true e = refl
      yes false e = sym e
