-- Plans whose sizes fit. Assumes nothing.
use Rattle.std.specs.Prelude.{Some, None}
use Prim.Native.Nat.{ℕ, ◌+◌, ◌*◌, ◌≤◌, ◌<◌}
use native.Mathlib.Omega.{arith}
use mathlib.Core.Path.{◌≡◌, refl, sym, ap, ◌∙◌}
use mathlib.Core.Bool.{Bool, true, false, cond, not, ◌&&◌, and-false}
use mathlib.Core.List.{List}
use lib.ListN.{length}
use lib.Signed.{non_neg}
use lib.Dec.{leb, eqb}
use borrow.Author.Tests.{le-leb, lt-leb, eq-eqb, ne_eqb, leb-true, eqb-true, not-true, not-false}
use Rattle.fields.specs.LittleEndian.{number_at}
use Rattle.plan.specs.Layout.{channels, start_rows, cycle_rows, lead_rows, rows, stored_rows, sizes_length, head_length, array_length, tops, top_of, entry, any_below, negative_top, tops_fit, sizes_fit}
use Rattle.plan.specs.Positions.{row_of, pass_of}
use Rattle.plan.specs.inner.Lifted.{passes}
use Rattle.plan.specs.inner.Sizes.{sizes_in, in_range, sizes_read, all_rows, all_stored, most_stored, farthest, Fitting}
use Rattle.plan.specs.declared.sizes.Sizes.{Sizes}
use Rattle.plan.proofs.Rows.{row_lt, pass_lt}
use Rattle.plan.proofs.Searches.{none_below, none_each}

-- Two tests that are both met.
pub both : (a b : Bool) → a && b ≡ true → (a ≡ true) × (b ≡ true)
both true b e = (refl, e)
both false b e = let z : ◌≡◌ {A = ℕ} 0 1 = cc in absurd (omega arith)

all_of : (a b c d e f g t : Bool) → a && ((b && c) && (d && (e && (f && (g && t))))) ≡ true
    → (b ≡ true) × (c ≡ true) × (d ≡ true) × (e ≡ true) × (f ≡ true) × (g ≡ true) × (t ≡ true)
all_of a b c d e f g t h =
    let sizes = (both a ((b && c) && (d && (e && (f && (g && t))))) h).1 in
    let range = both b c (both (b && c) (d && (e && (f && (g && t)))) sizes).0 in
    let cycle = both d (e && (f && (g && t))) (both (b && c) (d && (e && (f && (g && t)))) sizes).1 in
    let rows = both e (f && (g && t)) cycle.1 in
    let lead = both f (g && t) rows.1 in
    let whole = both g t lead.1 in
    (range.0, range.1, cycle.0, rows.0, lead.0, whole.0, whole.1)

-- Each of v tops that fit is not negative, and where each is not, they fit.
pub none_negative : (array : List ℕ) (v : ℕ) → tops_fit array v ≡ true → (channel : ℕ) → channel < v → negative_top array channel ≡ false
unfolding tops_fit
none_negative array v h channel l = none_each (negative_top array) v (not-true (any_below (negative_top array) v) h) channel l

pub all_fit : (array : List ℕ) (v : ℕ) → ((channel : ℕ) → channel < v → negative_top array channel ≡ false) → true ≡ tops_fit array v
unfolding tops_fit
all_fit array v h = ap not (sym (none_below (negative_top array) v h))

-- A top that is not negative.
pub top_natural : (plan : List ℕ) (channel : ℕ) → negative_top (tops plan) channel ≡ false → non_neg (top_of plan channel) ≡ true
unfolding negative_top top_of
top_natural plan channel e = not-false (non_neg (entry (tops plan) channel)) e

top_fits : (plan : List ℕ) (channel : ℕ) → non_neg (top_of plan channel) ≡ true → negative_top (tops plan) channel ≡ false
unfolding negative_top top_of
top_fits plan channel e = ap not e

tops_true : {plan : List ℕ} {z : Sizes} → Fitting plan z → tops_fit (tops plan) z.channels ≡ true
tops_true {plan} {z} f = sym (all_fit (tops plan) z.channels (λ channel l. top_fits plan channel (f.no_negative channel l)))

-- What the test says of the sizes.
pub fitting : (plan : List ℕ) → sizes_fit plan ≡ true → Fitting plan (sizes_in plan)
unfolding sizes_fit stored_rows rows
fitting plan h =
    let long = head_length (channels plan) + 2 * array_length (channels plan) (lead_rows plan + (start_rows plan + cycle_rows plan)) in
    let all = all_of (leb sizes_length (length plan)) (leb 1 (channels plan)) (leb (channels plan) 8) (leb 1 (cycle_rows plan)) (leb (start_rows plan + cycle_rows plan) 256) (leb (lead_rows plan) 4) (eqb (length plan) long) (tops_fit (tops plan) (channels plan)) h in
    record {
      v_is = refl;
      p_is = refl;
      c_is = refl;
      l_is = refl;
      a_channel = leb-true 1 (channels plan) all.0;
      few_channels = leb-true (channels plan) 8 all.1;
      a_cycle = leb-true 1 (cycle_rows plan) all.2;
      few_rows = leb-true (start_rows plan + cycle_rows plan) 256 all.3;
      few_lead = leb-true (lead_rows plan) 4 all.4;
      whole = eqb-true (length plan) long all.5;
      no_negative = λ channel l. top_natural plan channel (none_negative (tops plan) (channels plan) all.6 channel l);
    }

pub fits_true : {plan : List ℕ} {z : Sizes} → Fitting plan z → sizes_fit plan ≡ true
unfolding sizes_fit stored_rows rows
fits_true {plan} f =
    let long : sizes_length ≤ length plan = omega (arith, f.whole) in
    simp (
      f.v_is,
      f.p_is,
      f.c_is,
      f.l_is,
      le-leb _ _ long,
      le-leb _ _ f.a_channel,
      le-leb _ _ f.few_channels,
      le-leb _ _ f.a_cycle,
      le-leb _ _ f.few_rows,
      le-leb _ _ f.few_lead,
      eq-eqb _ _ f.whole,
      tops_true f,
    )

pub sizes_are : {plan : List ℕ} {z : Sizes} → Fitting plan z → sizes_in plan ≡ z
sizes_are f = rw (f.v_is, f.p_is, f.c_is, f.l_is) refl

pub rows_are : {plan : List ℕ} {z : Sizes} → Fitting plan z → rows plan ≡ all_rows z
unfolding rows
rows_are f = rw (f.p_is, f.c_is) refl

pub few_stored : {plan : List ℕ} {z : Sizes} → Fitting plan z → all_stored z ≤ most_stored
few_stored f = omega (arith, f.few_rows, f.few_lead)

-- A position before the end of the passes that the lookups reach: its row and its pass.
pub reached : {plan : List ℕ} {z : Sizes} → Fitting plan z → (t : ℕ) → t < farthest z
    → (row_of z.start z.cycle t < all_rows z) × (pass_of z.start z.cycle t < passes)
reached {plan} {z} f t h = (row_lt z.start z.cycle f.a_cycle t, pass_lt z.start z.cycle f.a_cycle t passes (omega arith) h)

-- A plan of which sizes are read, and another.
pub counted : (plan : List ℕ) {z : Sizes} → sizes_read plan ≡ Some z → Fitting plan z
unfolding sizes_read
counted plan {z} e = go (sizes_fit plan) refl e
  where
    go : (b : Bool) → sizes_fit plan ≡ b → cond b (Some (sizes_in plan)) None ≡ Some z → Fitting plan z
    go true h k = let same : sizes_in plan ≡ z = cc in rw same at (fitting plan h)
    go false h k = let z : ◌≡◌ {A = ℕ} 0 1 = cc in absurd (omega arith)

pub unfit : (plan : List ℕ) → sizes_read plan ≡ None → sizes_fit plan ≡ false
unfolding sizes_read
unfit plan e = go (sizes_fit plan) refl e
  where
    go : (b : Bool) → sizes_fit plan ≡ b → cond b (Some (sizes_in plan)) None ≡ None → sizes_fit plan ≡ false
    go true h k = let z : ◌≡◌ {A = ℕ} 0 1 = cc in absurd (omega arith)
    go false h k = h

-- Sizes that were read, where they fit and each way in which they do not.
module _ (plan : List ℕ) where
  pub too_short : length plan < sizes_length → None ≡ sizes_read plan
  unfolding sizes_read sizes_fit
  too_short h = simp (lt-leb _ _ h)

  pub reads : {v p c l : ℕ} → v ≡ number_at 2 plan 0 → p ≡ number_at 2 plan 2 → c ≡ number_at 2 plan 4 → l ≡ number_at 2 plan 6 → record { channels = v; start = p; cycle = c; lead = l } ≡ sizes_in plan
  unfolding channels start_rows cycle_rows lead_rows
  reads e f g h = λ i. record { channels = e i; start = f i; cycle = g i; lead = h i }

  module _ {z : Sizes} (e : z ≡ sizes_in plan) where
    fit_is : sizes_fit plan ≡ (leb sizes_length (length plan) && (in_range z && (eqb (length plan) (head_length z.channels + 2 * array_length z.channels (all_stored z)) && tops_fit (tops plan) z.channels)))
    unfolding sizes_fit stored_rows rows
    fit_is =
        let v = channels plan in
        let long = eqb (length plan) (head_length v + 2 * array_length v (lead_rows plan + (start_rows plan + cycle_rows plan))) in
        rw e (ap (λ (b : Bool). leb sizes_length (length plan) && b) (sym (later (leb 1 v && leb v 8) (leb 1 (cycle_rows plan)) (leb (rows plan) 256) (leb (lead_rows plan) 4) (long && tops_fit (tops plan) v))))
      where
        later : (a b c d f : Bool) → ((a && (b && (c && d))) && f) ≡ (a && (b && (c && (d && f))))
        later false b c d f = refl
        later true false c d f = refl
        later true true false d f = refl
        later true true true d f = refl

    pub out_of_range : in_range z ≡ false → None ≡ sizes_read plan
    unfolding sizes_read
    out_of_range h = simp (fit_is, h, and-false)

    pub other_length : (length plan ≡ head_length z.channels + 2 * array_length z.channels (all_stored z) → ⊥) → None ≡ sizes_read plan
    unfolding sizes_read
    other_length h = simp (fit_is, ne_eqb _ _ h, and-false)

    pub a_negative_top : tops_fit (tops plan) z.channels ≡ false → None ≡ sizes_read plan
    unfolding sizes_read
    a_negative_top h = simp (fit_is, h, and-false)

    pub all_fits : in_range z ≡ true → length plan ≡ head_length z.channels + 2 * array_length z.channels (all_stored z) → tops_fit (tops plan) z.channels ≡ true → Some z ≡ sizes_read plan
    unfolding sizes_read
    all_fits h whole f = let long : sizes_length ≤ length plan = omega (arith, whole) in
        let t : sizes_fit plan ≡ true = fit_is ∙ simp (h, le-leb _ _ long, eq-eqb _ _ whole, f) in
        ap Some e ∙ ap (λ b. cond b (Some (sizes_in plan)) None) (sym t)
