-- Some pass of a stretch on which a line is less than so many minutes after another: looked at one by one, and as a walk around the
-- week. Assumes nothing.
use Prim.Native.Nat.{ℕ, zero, suc, ◌+◌, ◌*◌, ◌-◌, ◌/◌, ◌%◌, min, ◌≤◌, ◌<◌}
use native.Mathlib.Nat.{div-add-mod', mul-le-mul}
use native.Mathlib.Decide.{dec_lt, ℕ_discrete}
use native.Mathlib.Omega.{arith}
use mathlib.Core.Path.{◌≡◌, refl, sym, ap, ◌∙◌, subst}
use mathlib.Core.Bool.{Bool, true, false, ◌||◌, false≢true}
use mathlib.Core.Logic.Iff
use mathlib.Core.Logic.{◌↔◌, ◌⊎◌, inl, inr, ⊎_elim, by_cases}
use borrow.Author.Tests.{lt-ltb, ltb-true}
use lib.IntN.{ℤ, sub_ℕ}
use Rattle.cltlb.specs.Week.{week, minute_of}
use Rattle.cltlb.proofs.Week.{minute_below}
use Rattle.verdict.specs.Lines.{Line, on_pass}
use Rattle.verdict.specs.Weeks.{minutes_after}
use Rattle.verdict.specs.Tops.{some_from, within_on, some_within}
use Rattle.verdict.specs.inner.Walks.{Enters}
use Rattle.verdict.specs.declared.stretches.Stretch.{Stretch}
use Rattle.verdict.specs.declared.stretches.Stretch.TheVariants.{From, Between}
use Rattle.verdict.proofs.Decisions.{same_test, lifted}
use Rattle.verdict.proofs.Minutes.{after_bias, after_on_pass}
use Rattle.verdict.proofs.PassesBelow.{Lies}
use Rattle.verdict.proofs.Walks.{walk}

-- ---- one by one

-- some pass of the n from pass a on
pub record SomePass (f : ℕ → Bool) (a n : ℕ) : Type 0 where
  pub pass : ℕ
  pub late : a ≤ pass
  pub early : pass < a + n
  pub holds : f pass ≡ true

either : (b c : Bool) → (b || c) ≡ true → (b ≡ true) ⊎ (c ≡ true)
either true c e = inl refl
either false c e = inr e

or_right : (b c : Bool) → c ≡ true → (b || c) ≡ true
or_right true c e = refl
or_right false c e = e

some_of : (f : ℕ → Bool) (a n : ℕ) → some_from f a n ≡ true → SomePass f a n
unfolding some_from
some_of f a zero e = absurd (false≢true e)
some_of f a (suc n) e =
    ⊎_elim
    (λ h. record { pass = a; late = omega arith; early = omega arith; holds = h })
    (λ h. later (some_of f (suc a) n h))
    (either (f a) (some_from f (suc a) n) e)
  where
    later : SomePass f (suc a) n → SomePass f a (suc n)
    later s = record { pass = s.pass; late = (let h = s.late in omega arith); early = (let h = s.early in omega arith); holds = s.holds }

of_some : (f : ℕ → Bool) (a n k : ℕ) → a ≤ k → k < a + n → f k ≡ true → some_from f a n ≡ true
unfolding some_from
of_some f a zero k h l e = absurd (omega arith)
of_some f a (suc n) k h l e =
    by_cases (ℕ_discrete a k)
    (λ z. rw (ap f z ∙ e) refl)
    (λ z. or_right (f a) (some_from f (suc a) n) (of_some f (suc a) n k (omega arith) (omega arith) e))

pub some_iff : (f : ℕ → Bool) (a n : ℕ) → SomePass f a n ↔ (some_from f a n ≡ true)
some_iff f a n = (λ s. of_some f a n s.pass s.late s.early s.holds, some_of f a n)

module _ (n : ℕ) (x y : Line) where
  on_pass_lem : (k : ℕ) → (within_on n x y k ≡ true) ↔ ((minutes_after x.at y.at + k * minutes_after x.step y.step) % week < n)
  on_pass_lem k = rw (after_on_pass x y k)
      (ltb-true ((minutes_after x.at y.at + k * minutes_after x.step y.step) % week) n, lt-ltb ((minutes_after x.at y.at + k * minutes_after x.step y.step) % week) n)

  -- ---- on a stretch

  -- After 10080 passes the minutes come again, so that some pass from a on is among the first 10080 of them.
  soon : (a k : ℕ) → a ≤ k → within_on n x y k ≡ true → SomePass (within_on n x y) a week
  soon a k h e = record {
    pass = a + (k - a) % 10080;
    late = omega arith;
    early = omega arith;
    holds = (on_pass_lem (a + (k - a) % 10080)).1
        (again (minutes_after x.at y.at) (minutes_after x.step y.step) (a + (k - a) % 10080) ((k - a) / 10080) k (omega arith) ((on_pass_lem k).0 e));
  }
    where
      again : (at d i j k : ℕ) → k ≡ i + j * 10080 → (at + k * d) % 10080 < n → (at + i * d) % 10080 < n
      again at d i j k e h =
          let s : k * d ≡ (i + j * 10080) * d = ap (λ (m : ℕ). m * d) e in
          weeks (at + k * d) (at + i * d) (j * d) (omega arith) h
        where
          weeks : (m o v : ℕ) → m ≡ o + v * 10080 → m % 10080 < n → o % 10080 < n
          weeks m o v e h = omega arith

  pub some_within_lem : (p : Stretch) → (some_within n x y p ≡ true) ↔ ((k : ℕ) × (Lies p k × (minutes_after (on_pass x k) (on_pass y k) < n)))
  unfolding some_within Lies
  some_within_lem (From a) = (
    λ e. let s = some_of (within_on n x y) a week e in (s.pass, (s.late, ltb-true _ n s.holds)),
    λ h. (some_iff (within_on n x y) a week).0 (soon a h.0 h.1.0 (lt-ltb _ n h.1.1)),
  )
  some_within_lem (Between a b) = (
    λ e. let s = some_of (within_on n x y) a (min (b - a) week) e in
        (s.pass, ((s.late, let l = s.early in let m = s.late in omega arith), ltb-true _ n s.holds)),
    λ h. (some_iff (within_on n x y) a (min (b - a) week)).0 (inside h.0 h.1.0.0 h.1.0.1 (lt-ltb _ n h.1.1)),
  )
    where
      inside : (k : ℕ) → a ≤ k → k < b → within_on n x y k ≡ true → SomePass (within_on n x y) a (min (b - a) week)
      inside k g u f =
          let s = soon a k g f in
          by_cases (dec_lt (b - a) week)
          (λ c. record { pass = k; late = g; early = omega arith; holds = f })
          (λ c. record { pass = s.pass; late = s.late; early = (let e = s.early in omega arith); holds = s.holds })

  -- ---- as a walk around the week

  module _ (first passes : ℕ) where
    -- where the walk begins: whole weeks of passes before the first do not matter
    abbrev pub start_of : ℕ
    start_of = (minutes_after x.at y.at + first % week * minutes_after x.step y.step) % week

    abbrev pub week_walk : ℕ → ℕ → Type 0
    week_walk a d = Enters (walk week a d passes) n

    arrive : (at d i : ℕ) → (at + (first + i) * d) % 10080 ≡ ((at + first % 10080 * d) % 10080 + i * d) % 10080
    arrive at d i =
        let s : first * d ≡ (first / 10080 * 10080 + first % 10080) * d = ap (λ (m : ℕ). m * d) (sym (div-add-mod' first 10080)) in
        weeks (at + (first + i) * d) (at + first % 10080 * d) (i * d) (first / 10080 * d) (omega arith)
      where
        weeks : (m o u v : ℕ) → m ≡ o + u + v * 10080 → m % 10080 ≡ (o % 10080 + u) % 10080
        weeks m o u v e = omega arith

    -- on the i-th pass of the walk
    walked : (i : ℕ) → (within_on n x y (first + i) ≡ true) ↔ ((start_of + i * minutes_after x.step y.step) % week < n)
    walked i = rw (← arrive (minutes_after x.at y.at) (minutes_after x.step y.step) i) (on_pass_lem (first + i))

    in_lap : (m j : ℕ) → j * 10080 ≤ m → m < j * 10080 + n → m % 10080 < n
    in_lap m j a b = by_cases (dec_lt n 10080) (λ l. omega arith) (λ l. omega arith)

    pub walk_within : week_walk start_of (minutes_after x.step y.step) ↔ SomePass (within_on n x y) first passes
    walk_within = (there, back)
      where
        there : week_walk start_of (minutes_after x.step y.step) → SomePass (within_on n x y) first passes
        there w = record {
          pass = first + w.pass;
          late = omega arith;
          early = let h = w.early in omega arith;
          holds = (walked w.pass).1 (in_lap (start_of + w.pass * minutes_after x.step y.step) w.laps w.reached w.short);
        }

        back : SomePass (within_on n x y) first passes → week_walk start_of (minutes_after x.step y.step)
        back s = record {
          pass = i;
          laps = (start_of + i * minutes_after x.step y.step) / 10080;
          early = let h = s.early in let g = s.late in omega arith;
          reached = omega (arith, div-add-mod' (start_of + i * minutes_after x.step y.step) 10080);
          short = omega (arith, div-add-mod' (start_of + i * minutes_after x.step y.step) 10080, low);
        }
          where
            i : ℕ
            i = s.pass - first

            same : first + i ≡ s.pass
            same = let g = s.late in omega arith

            low : (start_of + i * minutes_after x.step y.step) % 10080 < n
            low = (walked i).0 (subst (λ (k : ℕ). within_on n x y k ≡ true) (sym same) s.holds)

-- ---- as the code finds it

pub small_turn : (first : ℕ) {d : ℕ} (z : ℤ) → d ≡ minute_of z → (first % week * d ≤ week * week) × (d < week)
small_turn first {d} z e =
    let h = minute_below z in
    (mul-le-mul {n₁ = first % 10080} {m₁ = d} {n₂ = 10080} {m₂ = 10080} (omega arith) (omega arith), omega arith)

pub none_within : (n : ℕ) (x y : Line) (first passes : ℕ) → n ≡ 0 → false ≡ some_from (within_on n x y) first passes
none_within n x y first passes z =
    same_test false _ (λ e. absurd (false≢true e), λ e. let h = ltb-true _ n (some_of (within_on n x y) first passes e).holds in absurd (omega arith))

-- s being the first minutes after, and m those of the steps
pub walk_found : (n B D a d b e first passes : ℕ) {m s : ℕ} {r : Bool} → m ≡ minute_of (sub_ℕ d e) → s ≡ minute_of (sub_ℕ a b)
    → (r ≡ true) ↔ Enters (walk week ((s + first % week * m) % week) m passes) n → r ≡ some_from (within_on n (lifted B D a d) (lifted B D b e)) first passes
walk_found n B D a d b e first passes {m} {s} {r} em es h =
    same_test r _ (Iff.trans h (Iff.trans (found (es ∙ sym (after_bias a b B)) (em ∙ sym (after_bias d e D))) (some_iff _ first passes)))
  where
    found : s ≡ minutes_after (sub_ℕ a B) (sub_ℕ b B) → m ≡ minutes_after (sub_ℕ d D) (sub_ℕ e D)
        → Enters (walk week ((s + first % week * m) % week) m passes) n ↔ SomePass (within_on n (lifted B D a d) (lifted B D b e)) first passes
    found f g = rw (f, g) (walk_within n (lifted B D a d) (lifted B D b e) first passes)
