-- A search for one that is true, going up, by a loop or by `any` and `all` of a range. Assumes nothing.
use Rattle.std.specs.Prelude.{Option}
use Rattle.std.specs.declared.ops.Range.{Range}
use Prim.Native.Nat.{ℕ, zero, suc, ◌+◌, ◌<◌}
use native.Mathlib.Decide.{dec_lt}
use native.Mathlib.Numerals.{add-one}
use native.Mathlib.Omega.{arith}
use mathlib.Core.Path.{◌≡◌, refl, sym, ap, ap₂, ◌∙◌, subst}
use mathlib.Core.Bool.{Bool, true, false, not, ◌&&◌, ◌||◌, or-true, or-false, false≢true}
use mathlib.Core.List.{List, [], ◌∷◌}
use mathlib.Core.Logic.{by_cases}
use denote.Param.Members.{Mut}
use Rattle.std.specs.Fn.{Called}
use Rattle.std.specs.Iterator.{YieldsThen}
use Rattle.std.specs.List.{range_with_len, list_any, list_all, FoldsTo}
use Rattle.std.specs.Option.{MatchOption}
use Rattle.std.proofs.iter.Yields.{nat_range_steps}
use Rattle.std.proofs.lemmas.Iterator.{YieldsList-from_range}
use Rattle.std.proofs.lemmas.Iterator.Search.{any_from_yields_List, all_from_yields_List}
use Rattle.plan.specs.Layout.{any_below}

module _ (f : ℕ → Bool) where
  pub none_below : (n : ℕ) → ((k : ℕ) → k < n → f k ≡ false) → any_below f n ≡ false
  unfolding any_below
  none_below zero h = refl
  none_below (suc n) h = ap₂ ◌||◌ (none_below n (λ k l. h k (omega arith))) (h n (omega arith))

  pub one_here : (k n : ℕ) → k < n → f k ≡ true → any_below f n ≡ true
  unfolding any_below
  one_here k zero h e = absurd (omega arith)
  one_here k (suc n) h e =
      let lower = one_here k n in
      by_cases (dec_lt k n)
      (λ l. ap (λ (b : Bool). b || f n) (lower l e))
      (λ l. let same : k ≡ n = omega arith in ap (λ (b : Bool). any_below f n || b) (subst (λ (i : ℕ). f i ≡ true) same e) ∙ or-true (any_below f n))

  pub none_each : (n : ℕ) → any_below f n ≡ false → (k : ℕ) → k < n → f k ≡ false
  none_each n e k h = go (f k) refl
    where
      go : (b : Bool) → f k ≡ b → f k ≡ false
      go true g = absurd (false≢true (sym e ∙ one_here k n h g))
      go false g = g

-- ---- `any` and `all` of the numbers below n

module _ (f : ℕ → Bool) where
  or_later : (a b c : Bool) → (a || b) || c ≡ a || (b || c)
  or_later true b c = refl
  or_later false b c = refl

  range_any : (a n m : ℕ) → m ≡ a + n → any_below f a || list_any f (range_with_len a n) ≡ any_below f m
  unfolding any_below
  range_any a zero m e = let same : a ≡ m = omega arith in or-false (any_below f a) ∙ ap (any_below f) same
  range_any a (suc n) m e =
      let one : any_below f a || f a ≡ any_below f (a + 1) = ap (any_below f) (sym (add-one a)) in
      sym (or_later (any_below f a) (f a) (list_any f (range_with_len (a + 1) n))) ∙ ap (λ b. b || list_any f (range_with_len (a + 1) n)) one ∙ range_any (a + 1) n m (omega arith)

  any_listed : (n : ℕ) → list_any f (range_with_len 0 n) ≡ any_below f n
  unfolding any_below
  any_listed n = range_any 0 n n (omega arith)

module _ {F : Type 0} {g : Mut F (ℕ × Unit {0}) Bool} {s : Range ℕ} (f : ℕ → Bool) (n : ℕ) (u : Range ℕ) (h : F) (r : Bool) (is : s ≡ record { start = 0; end = n }) where
  pub any_found : (xs : List ℕ) × (o : Option ℕ) × (j : F) × YieldsThen nat_range_steps s xs o u × FoldsTo (λ p x q. Called g p (x, tt) false q) h xs j × MatchOption o (r ≡ false) (λ x. (r ≡ true) × ((q : F) × Called g j (x, tt) true q))
      → ((x : ℕ) (b : Bool) (q : F) → Called g h (x, tt) b q → (q ≡ h) × (b ≡ f x)) → r ≡ any_below f n
  any_found d same = any_from_yields_List f u h r d (YieldsList-from_range 0 n n is (omega arith)) same ∙ any_listed f n

  pub all_found : (xs : List ℕ) × (o : Option ℕ) × (j : F) × YieldsThen nat_range_steps s xs o u × FoldsTo (λ p x q. Called g p (x, tt) true q) h xs j × MatchOption o (r ≡ true) (λ x. (r ≡ false) × ((q : F) × Called g j (x, tt) false q))
      → ((x : ℕ) (b : Bool) (q : F) → Called g h (x, tt) b q → (q ≡ h) × (b ≡ not (f x))) → r ≡ not (any_below f n)
  all_found d same = all_from_yields_List (λ x. not (f x)) u h r d (YieldsList-from_range 0 n n is (omega arith)) same ∙ none_listed (range_with_len 0 n) ∙ ap not (any_listed f n)
    where
      none_listed : (ys : List ℕ) → list_all (λ x. not (f x)) ys ≡ not (list_any f ys)
      none_listed [] = refl
      none_listed (y ∷ ys) = ap (λ b. not (f y) && b) (none_listed ys) ∙ neither (f y) (list_any f ys)
        where
          neither : (a b : Bool) → (not a && not b) ≡ not (a || b)
          neither true b = refl
          neither false b = refl
