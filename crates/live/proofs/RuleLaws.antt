-- What an add reads of a rule sheet, as the definitions have it. Assumes nothing.
use Rattle.rule.specs.inner.Sizes.{sizes}
use Rattle.std.specs.Prelude.{Result, Ok, Err}
use Prim.Native.Nat.{ℕ, zero, suc, ◌+◌, ◌<◌}
use native.Mathlib.Nat.{not-suc-le-zero}
use native.Mathlib.Decide.{dec_lt}
use native.Mathlib.Numerals.{add-one}
use native.Mathlib.Omega.{arith}
use mathlib.Core.Path.{◌≡◌, refl, sym, ap, ◌∙◌, subst}
use mathlib.Core.Bool.{Bool, true, false, ◌||◌}
use mathlib.Core.Logic.{by_cases}
use mathlib.Core.List.{List}
use borrow.Author.Tests.{eq-eqb, ne_eqb}
use Rattle.refusal.specs.declared.Refusal.{Refusal}
use Rattle.refusal.specs.declared.Refusal.TheVariants.{Unwatchable}
use Rattle.refusal.specs.Outcome.{Outcome, unrefused}
use Rattle.refusal.specs.First.{◌or_else◌, unless}
use Rattle.cltlb.specs.Views.{view_of}
use Rattle.cltlb.specs.declared.Part.{Part}
use Rattle.cltlb.specs.declared.View.{View}
use Rattle.rule.specs.declared.sizes.Sizes.{Sizes}
use Rattle.rule.specs.Layout.{part_count, channel_count}
use Rattle.rule.specs.Take.{part_taken, parts_of, views_of}
use Rattle.rule.specs.Sheet.{sheet_outcome}
use Rattle.rule.specs.Promise.{TakePromise}
use Rattle.rule.specs.inner.Read.{counts_unless, sheet_read}
use Rattle.plan.specs.Layout.{any_below}
use Rattle.past.specs.Ahead.{term_ahead, atom_ahead, view_ahead}
use Rattle.live.specs.State.{watchable}
use Rattle.live.specs.inner.Rules.{rule_read}

-- ---- one part

module _ (sheet : List ℕ) (i : ℕ) where
  pub none_ahead : {taken : Result Part Refusal} {r : Refusal} → TakePromise sheet i taken → taken ≡ Err r → false ≡ view_ahead (views_of sheet i)
  unfolding views_of parts_of part_taken view_ahead atom_ahead term_ahead
  none_ahead p e = rw (← p.is_take, e) refl

  pub part_ahead : {taken : Result Part Refusal} {part : Part} {view : View} {r : Bool} → TakePromise sheet i taken → taken ≡ Ok part → view ≡ view_of part
      → r ≡ view_ahead view → r ≡ view_ahead (views_of sheet i)
  unfolding views_of parts_of part_taken
  part_ahead p e f g = rw (← p.is_take, e, ← f) g

-- ---- the parts below a number

module _ (f : ℕ → Bool) where
  pub any_none : any_below f 0 ≡ false
  unfolding any_below
  any_none = refl

  pub any_more : (i : ℕ) → any_below f i ≡ false → f i ≡ false → any_below f (i + 1) ≡ false
  unfolding any_below
  any_more i e g = rw (add-one i, e) g

  or-true : (b : Bool) → (b || true) ≡ true
  or-true true = refl
  or-true false = refl

  pub any_found : (n i : ℕ) → i < n → f i ≡ true → true ≡ any_below f n
  unfolding any_below
  any_found zero i h e = absurd (not-suc-le-zero h)
  any_found (suc n) i h e =
      by_cases (dec_lt i n)
      (λ l. sym (ap (λ (b : Bool). b || f n) (sym (any_found n i l e))))
      (λ l. let q : i ≡ n = omega arith in sym (ap (λ (b : Bool). any_below f n || b) (subst (λ (j : ℕ). f j ≡ true) q e) ∙ or-true (any_below f n)))

-- ---- the whole sheet

by_outcome : (v : ℕ) (sheet : List ℕ) (o : Outcome) {read : Result Sizes Refusal} {r : Refusal} → read ≡ counts_unless o sheet → read ≡ Err r
    → read ≡ counts_unless (o or_else unless (watchable v sheet) Unwatchable) sheet
unfolding counts_unless ◌or_else◌
by_outcome v sheet (Ok _) {read} {r} g h =
    absurd (let z : Ok (sizes (part_count sheet) (channel_count sheet)) ≡ Err r = sym g ∙ h in let y : ◌≡◌ {A = ℕ} 0 1 = cc in omega arith)
by_outcome v sheet (Err q) g h = g

-- N and V, where they were read
abbrev counts : Result Sizes Refusal → Sizes
counts (Ok s) = s
counts (Err r) = sizes 0 0

counted : (sheet : List ℕ) (o : Outcome) {read : Result Sizes Refusal} {p c : ℕ} → read ≡ counts_unless o sheet → read ≡ Ok (sizes p c)
    → (o ≡ unrefused) × (p ≡ part_count sheet) × (c ≡ channel_count sheet)
unfolding counts_unless
counted sheet (Ok _) {read} {p} {c} g h = let z : Ok (sizes p c) ≡ Ok (sizes (part_count sheet) (channel_count sheet)) = sym h ∙ g in (
  refl,
  ap (λ (x : Result Sizes Refusal). (counts x).parts) z,
  ap (λ (x : Result Sizes Refusal). (counts x).channels) z,
)
counted sheet (Err q) {read} {p} {c} g h = absurd (let z : Ok (sizes p c) ≡ Err q = sym h ∙ g in let y : ◌≡◌ {A = ℕ} 0 1 = cc in omega arith)

module _ (v : ℕ) (sheet : List ℕ) {read : Result Sizes Refusal} (e : read ≡ sheet_read sheet) where
  -- A sheet that 1 to 3 refuse.
  pub read_refused : {r : Refusal} → read ≡ Err r → Err r ≡ rule_read v sheet
  unfolding rule_read sheet_read
  read_refused f = sym f ∙ by_outcome v sheet (sheet_outcome sheet) e f

  module _ {p c : ℕ} (f : read ≡ Ok (sizes p c)) where
    known : (sheet_outcome sheet ≡ unrefused) × (p ≡ part_count sheet) × (c ≡ channel_count sheet)
    unfolding sheet_read
    known = counted sheet (sheet_outcome sheet) e f

    -- Another V than the state's.
    pub other_channels : (c ≡ v → ⊥) → Err Unwatchable ≡ rule_read v sheet
    unfolding rule_read watchable counts_unless ◌or_else◌ unless
    other_channels n = rw (known.0, ne_eqb (channel_count sheet) v (λ q. n (known.2 ∙ q))) refl

    module _ {b : Bool} (g : b ≡ any_below (λ i. view_ahead (views_of sheet i)) p) (h : c ≡ v) where
      any : b ≡ any_below (λ i. view_ahead (views_of sheet i)) (part_count sheet)
      any = subst (λ (n : ℕ). b ≡ any_below (λ i. view_ahead (views_of sheet i)) n) known.1 g

      pub looks_ahead : b ≡ true → Err Unwatchable ≡ rule_read v sheet
      unfolding rule_read watchable counts_unless ◌or_else◌ unless
      looks_ahead t = rw (known.0, eq-eqb (channel_count sheet) v (sym known.2 ∙ h), ← any, t) refl

      pub looks_back : b ≡ false → Ok (sizes p c) ≡ rule_read v sheet
      unfolding rule_read watchable counts_unless ◌or_else◌ unless
      looks_back t = rw (known.0, eq-eqb (channel_count sheet) v (sym known.2 ∙ h), ← any, t) (λ i. Ok (sizes (known.1 i) (known.2 i)))
