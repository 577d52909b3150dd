-- The tests and the truths that the code makes of what is kept, as the definitions have it. Assumes nothing.
use Prim.Native.Nat.{ℕ, zero, suc, ◌+◌, ◌*◌, ◌%◌, ◌≤◌, ◌<◌, min, max}
use native.Mathlib.Omega.{arith}
use native.Mathlib.Decide.{dec_lt}
use native.Mathlib.Numerals.{add-one}
use mathlib.Core.Path.{◌≡◌, refl, sym, ap, ap₂, ◌∙◌}
use mathlib.Core.Bool.{Bool, true, false, ◌&&◌, ◌||◌, false≢true}
use mathlib.Core.Logic.{◌↔◌, by_cases}
use mathlib.Core.List.{List}
use lib.Dec.{ltb, leb, eqb}
use lib.ListN.{length, get_or, set, replicate, length-set}
use lib.IntN.{ℤ, sub_ℕ}
use lib.Signed.{lt_z}
use Rattle.std.specs.Int.{from_bool}
use borrow.Author.Tests.{lt-ltb, le-ltb, eq-eqb, ne_eqb, eqb-true, ltb-true}
use Rattle.cltlb.specs.Run.{Seen, number, pinned, before_run}
use Rattle.cltlb.specs.Week.{minute_of, in_window}
use Rattle.fields.specs.LittleEndian.{number_at}
use Rattle.fields.proofs.Differences.{sub_pos, sub_neg, sub_lt, sub_eq}
use Rattle.rule.specs.Layout.{kind_byte, kind_place, operand_place}
use Rattle.table.specs.Bytes.{byte_of}
use Rattle.verdict.specs.Lines.{eq_z}
use Rattle.verdict.specs.Comparisons.{of_number, of_numbers, seen_pinned}
use Rattle.verdict.proofs.Decisions.{Decides, lt_decides, eq_decides}
use Rattle.live.specs.Kept.{seen_of}
use Rattle.live.specs.Truths.{negated, earlier, named, term_value, kind_truth, truths_to}
use Rattle.live.specs.inner.Minutes.{in_minutes}

-- the byte that std makes of a bool
pub byte_from : (b : Bool) → from_bool b ≡ byte_of b
byte_from true = refl
byte_from false = refl

-- ---- what is seen of what is kept

pub seen_number : (n : ℕ) → n < 4294967296 → seen_of n ≡ number (sub_ℕ n 2147483648)
unfolding seen_of
seen_number n h = simp (lt-ltb n 4294967296 h)

pub seen_pinned_lem : (n : ℕ) → n ≡ 4294967296 → seen_of n ≡ pinned
unfolding seen_of
seen_pinned_lem n e = rw e refl

pub seen_nothing : (n : ℕ) → 4294967296 < n → seen_of n ≡ before_run
unfolding seen_of
seen_nothing n h = let k : 4294967296 ≤ n = omega arith in simp (le-ltb n 4294967296 k, ne_eqb n 4294967296 (λ e. absurd (omega arith)))

-- No test is true of what is kept from 2 ^ 32 on.
unnumbered : (n : ℕ) (test : ℤ → Bool) → 4294967296 ≤ n → of_number (seen_of n) test ≡ false
unfolding of_number
unnumbered n test h =
    by_cases (dec_lt 4294967296 n)
    (λ l. ap (λ (x : Seen). of_number x test) (seen_nothing n l))
    (λ l. ap (λ (x : Seen). of_number x test) (seen_pinned_lem n (omega arith)))

no_first : (x y : ℕ) (test : ℤ → ℤ → Bool) → 4294967296 ≤ x → of_numbers test (seen_of x) (seen_of y) ≡ false
unfolding of_numbers
no_first x y test h = unnumbered x _ h

no_second : (x y : ℕ) (test : ℤ → ℤ → Bool) → x < 4294967296 → 4294967296 ≤ y → of_numbers test (seen_of x) (seen_of y) ≡ false
unfolding of_numbers of_number
no_second x y test h k = rw (seen_number x h) (unnumbered y _ k)

two_tested_lem : (x y : ℕ) (test : ℤ → ℤ → Bool) → x < 4294967296 → y < 4294967296 → of_numbers test (seen_of x) (seen_of y) ≡ test (sub_ℕ x 2147483648) (sub_ℕ y 2147483648)
unfolding of_numbers of_number
two_tested_lem x y test h k = rw (seen_number x h, seen_number y k) refl

same_tests : (x y : Bool) → (x ≡ true) ↔ (y ≡ true) → x ≡ y
same_tests true true h = refl
same_tests true false h = absurd (false≢true (h.0 refl))
same_tests false true h = absurd (false≢true (h.1 refl))
same_tests false false h = refl

lt_kept : (a b : ℕ) → ltb a b ≡ lt_z (sub_ℕ a 2147483648) (sub_ℕ b 2147483648)
unfolding Decides
lt_kept a b =
    let e = sub_lt a 2147483648 b 2147483648 in
    let d = lt_decides (sub_ℕ a 2147483648) (sub_ℕ b 2147483648) in
    same_tests (ltb a b) (lt_z (sub_ℕ a 2147483648) (sub_ℕ b 2147483648))
    (λ h. d.1 (e.1 (let k = ltb-true a b h in omega arith)), λ h. lt-ltb a b (let k = e.0 (d.0 h) in omega arith))

eq_kept : (a b : ℕ) → eqb a b ≡ eq_z (sub_ℕ a 2147483648) (sub_ℕ b 2147483648)
unfolding Decides
eq_kept a b =
    let e = sub_eq a 2147483648 b 2147483648 in
    let d = eq_decides (sub_ℕ a 2147483648) (sub_ℕ b 2147483648) in
    same_tests (eqb a b) (eq_z (sub_ℕ a 2147483648) (sub_ℕ b 2147483648))
    (λ h. d.1 (e.1 (let k = eqb-true a b h in omega arith)), λ h. eq-eqb a b (let k = e.0 (d.0 h) in omega arith))

and-true : (b : Bool) → (b && true) ≡ b
and-true true = refl
and-true false = refl

and-false : (b : Bool) → (b && false) ≡ false
and-false true = refl
and-false false = refl

-- A test of two numbers as they are kept, false where one of them is none: `small` is the test where the right one is a number.
module _ (small : Bool) (test : ℤ → ℤ → Bool) (x y : ℕ) (is : small ≡ test (sub_ℕ x 2147483648) (sub_ℕ y 2147483648))
    (above : 4294967296 ≤ x → y < 4294967296 → small ≡ false) where
  pub both_kept : (small && ltb y 4294967296) ≡ of_numbers test (seen_of x) (seen_of y)
  both_kept =
      by_cases (dec_lt y 4294967296)
      (λ k. ap (λ (b : Bool). small && b) (lt-ltb y 4294967296 k) ∙ and-true small ∙ number_right k)
      (λ k. let l : 4294967296 ≤ y = omega arith in ap (λ (b : Bool). small && b) (le-ltb y 4294967296 l) ∙ and-false small ∙ sym (no_right l))
    where
      number_right : y < 4294967296 → small ≡ of_numbers test (seen_of x) (seen_of y)
      number_right k =
          by_cases (dec_lt x 4294967296)
          (λ h. is ∙ sym (two_tested_lem x y test h k))
          (λ h. let l : 4294967296 ≤ x = omega arith in above l k ∙ sym (no_first x y test l))

      no_right : 4294967296 ≤ y → of_numbers test (seen_of x) (seen_of y) ≡ false
      no_right l = by_cases (dec_lt x 4294967296) (λ h. no_second x y test h l) (λ h. no_first x y test (omega arith))

pub below_kept : (x y : ℕ) → (ltb x y && ltb y 4294967296) ≡ of_numbers lt_z (seen_of x) (seen_of y)
below_kept x y = both_kept (ltb x y) lt_z x y (lt_kept x y) (λ l k. le-ltb x y (omega arith))

pub same_kept : (x y : ℕ) → (eqb x y && ltb y 4294967296) ≡ of_numbers eq_z (seen_of x) (seen_of y)
same_kept x y = both_kept (eqb x y) eq_z x y (eq_kept x y) (λ l k. ne_eqb x y (λ e. absurd (omega arith)))

pub pinned_kept_lem : (x : ℕ) → eqb x 4294967296 ≡ seen_pinned (seen_of x)
unfolding seen_pinned
pinned_kept_lem x =
    by_cases (dec_lt x 4294967296)
    (λ h. ne_eqb x 4294967296 (λ e. absurd (omega arith)) ∙ sym (ap seen_pinned (seen_number x h)))
    (λ h. by_cases (dec_lt 4294967296 x)
    (λ k. ne_eqb x 4294967296 (λ e. absurd (omega arith)) ∙ sym (ap seen_pinned (seen_nothing x k)))
    (λ k. let e : x ≡ 4294967296 = omega arith in eq-eqb x 4294967296 e ∙ sym (ap seen_pinned (seen_pinned_lem x e))))

-- ---- windows

minute_kept : (x : ℕ) → minute_of (sub_ℕ x 2147483648) ≡ (x + 9952) % 10080
unfolding minute_of
minute_kept x =
    by_cases (dec_lt x 2147483648)
    (λ h. ap minute_of (sub_neg x 2147483648 h) ∙ omega arith)
    (λ h. let k : 2147483648 ≤ x = omega arith in ap minute_of (sub_pos x 2147483648 k) ∙ omega arith)

pub none_within : (x from to : ℕ) → 4294967296 ≤ x → 0 ≡ byte_of (of_number (seen_of x) (in_window from to))
none_within x from to h = sym (ap byte_of (unnumbered x (in_window from to) h))

pub number_within : (x from to : ℕ) {b : Bool} {r : ℕ} → x < 4294967296 → b ≡ in_minutes from to ((x + 9952) % 10080) → r ≡ byte_of b
    → r ≡ byte_of (of_number (seen_of x) (in_window from to))
unfolding of_number in_window in_minutes
number_within x from to h e f = f ∙ ap byte_of (e ∙ ap (λ (m : ℕ). in_minutes from to m) (sym (minute_kept x)) ∙ sym (ap (λ (s : Seen). of_number s (in_window from to)) (seen_number x h)))

pub one_day : (from to minute : ℕ) → from < to → (leb from minute && ltb minute to) ≡ in_minutes from to minute
unfolding in_minutes
one_day from to minute h = simp (lt-ltb from to h)

pub over_the_end : (from to minute : ℕ) → to ≤ from → (leb from minute || ltb minute to) ≡ in_minutes from to minute
unfolding in_minutes
over_the_end from to minute h = simp (le-ltb from to h)

-- ---- a part of a kind

module _ (readings : List ℕ) (age : ℕ) (rule before : List ℕ) (at : ℕ) (this : List ℕ) (i : ℕ) where
  abbrev Truth : ℕ → ℕ
  Truth k = kind_truth readings age rule before k at this i

  pub of_less : {k x y r : ℕ} → k ≡ 1 → x ≡ term_value readings age rule at → y ≡ term_value readings age rule (at + 6)
      → r ≡ byte_of (of_numbers lt_z (seen_of x) (seen_of y)) → r ≡ Truth k
  unfolding kind_truth
  of_less e f g h = rw (e, ← f, ← g) h

  pub of_equal : {k x y r : ℕ} → k ≡ 2 → x ≡ term_value readings age rule at → y ≡ term_value readings age rule (at + 6)
      → r ≡ byte_of (of_numbers eq_z (seen_of x) (seen_of y)) → r ≡ Truth k
  unfolding kind_truth
  of_equal e f g h = rw (e, ← f, ← g) h

  pub of_not : {k a r : ℕ} → k ≡ 3 → a ≡ named rule this at → r ≡ negated a → r ≡ Truth k
  unfolding kind_truth
  of_not e f h = rw (e, ← f) h

  pub of_and : {k a b r : ℕ} → k ≡ 4 → a ≡ named rule this at → b ≡ named rule this (at + 2) → r ≡ min a b → r ≡ Truth k
  unfolding kind_truth
  of_and e f g h = rw (e, ← f, ← g) h

  pub of_or : {k a b r : ℕ} → k ≡ 5 → a ≡ named rule this at → b ≡ named rule this (at + 2) → r ≡ max a b → r ≡ Truth k
  unfolding kind_truth
  of_or e f g h = rw (e, ← f, ← g) h

  pub of_yesterday : {k a r : ℕ} → k ≡ 9 → a ≡ named rule before at → r ≡ earlier age 0 a → r ≡ Truth k
  unfolding kind_truth
  of_yesterday e f h = rw (e, ← f) h

  pub of_weak : {k a r : ℕ} → k ≡ 10 → a ≡ named rule before at → r ≡ earlier age 1 a → r ≡ Truth k
  unfolding kind_truth
  of_weak e f h = rw (e, ← f) h

  pub of_since : {k a b c d r : ℕ} → k ≡ 11 → b ≡ named rule this (at + 2) → a ≡ named rule this at → c ≡ earlier age 0 (get_or before i 0)
      → d ≡ min a c → r ≡ max b d → r ≡ Truth k
  unfolding kind_truth
  of_since e f g h d q = rw (e, ← f, ← g, ← h, ← d) q

  pub of_trigger : {k a b c d r : ℕ} → k ≡ 12 → b ≡ named rule this (at + 2) → a ≡ named rule this at → c ≡ earlier age 1 (get_or before i 0)
      → d ≡ max a c → r ≡ min b d → r ≡ Truth k
  unfolding kind_truth
  of_trigger e f g h d q = rw (e, ← f, ← g, ← h, ← d) q

  pub of_window : {k x from to r : ℕ} → k ≡ 13 → x ≡ term_value readings age rule at → from ≡ number_at 2 rule (at + 6) → to ≡ number_at 2 rule (at + 8)
      → r ≡ byte_of (of_number (seen_of x) (in_window from to)) → r ≡ Truth k
  unfolding kind_truth
  of_window e f g h q = rw (e, ← f, ← g, ← h) q

  pub of_pinned : {k x r : ℕ} → k ≡ 14 → x ≡ term_value readings age rule at → r ≡ byte_of (seen_pinned (seen_of x)) → r ≡ Truth k
  unfolding kind_truth
  of_pinned e f h = rw (e, ← f) h

  pub of_none : {k : ℕ} → (k ≡ 1 → ⊥) → (k ≡ 2 → ⊥) → (k ≡ 3 → ⊥) → (k ≡ 4 → ⊥) → (k ≡ 5 → ⊥) → (k ≡ 9 → ⊥) → (k ≡ 10 → ⊥) → (k ≡ 11 → ⊥) → (k ≡ 12 → ⊥) → (k ≡ 13 → ⊥) → (k ≡ 14 → ⊥) → 0 ≡ Truth k
  unfolding kind_truth
  of_none {k} a1 a2 a3 a4 a5 a9 a10 a11 a12 a13 a14 =
      simp (
        ne_eqb k 1 a1,
        ne_eqb k 2 a2,
        ne_eqb k 3 a3,
        ne_eqb k 4 a4,
        ne_eqb k 5 a5,
        ne_eqb k 9 a9,
        ne_eqb k 10 a10,
        ne_eqb k 11 a11,
        ne_eqb k 12 a12,
        ne_eqb k 13 a13,
        ne_eqb k 14 a14,
      )

-- ---- the loop

module _ (readings : List ℕ) (age : ℕ) (rule before : List ℕ) (n : ℕ) where
  pub truths_long : (i : ℕ) → length (truths_to readings age rule before n i) ≡ 64
  unfolding truths_to
  truths_long zero = refl
  truths_long (suc i) = length-set (truths_to readings age rule before n i) i _ ∙ truths_long i

  pub truths_none : truths_to readings age rule before n 0 ≡ replicate 64 0
  unfolding truths_to
  truths_none = refl

  pub truths_more : (i : ℕ) {this : List ℕ} {x : ℕ} → this ≡ truths_to readings age rule before n i
      → x ≡ kind_truth readings age rule before (get_or rule (4 + i) 0) (4 + n + 12 * i) this i → set this i x ≡ truths_to readings age rule before n (i + 1)
  unfolding truths_to kind_byte kind_place operand_place
  truths_more i e f = rw (add-one i) (ap₂ (λ (l : List ℕ) (y : ℕ). set l i y) e (f ∙ ap (λ (l : List ℕ). kind_truth readings age rule before (get_or rule (4 + i) 0) (4 + n + 12 * i) l i) e))
