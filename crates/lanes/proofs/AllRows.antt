-- All rows: each stretch of positions by its sweep, and the sweeps together. Assumes nothing.
use Prim.Native.Nat.{ℕ, ◌+◌, ◌*◌, ◌-◌, max, ◌≤◌, ◌<◌}
use native.Mathlib.Decide.{dec_lt}
use native.Mathlib.Omega.{arith}
use mathlib.Core.Path.{◌≡◌, refl, sym, ap, ◌∙◌}
use mathlib.Core.Bool.{Bool, true, false, not, ◌&&◌, and-true, true≢false}
use mathlib.Core.List.{List}
use mathlib.Core.Logic.{by_cases}
use lib.Dec.{eqb}
use lib.ListN.{get_or}
use Rattle.plan.specs.inner.Sizes.{all_rows, all_stored, Fitting}
use Rattle.plan.specs.declared.sizes.Sizes.{Sizes}
use Rattle.table.specs.Layout.{mark_byte, marked}
use Rattle.table.specs.inner.Tables.{all_below, mark_in, Sized}
use Rattle.table.proofs.AllBelow.{all_ext}
use Rattle.verdict.specs.inner.Reach.{reach, TermsFit, AsksLeft}
use Rattle.verdict.specs.declared.Comparison.{Comparison}
use Rattle.verdict.proofs.Landed.{read_inside}
use Rattle.lanes.specs.declared.ranges.Ranges.{Ranges}
use Rattle.lanes.specs.inner.Direct.{agrees_on, numbers_say, lines_say, OfPart, DirectRows, LongLanes}
use Rattle.lanes.specs.inner.Lanes.{Laid, Lanes}
use Rattle.lanes.specs.inner.Positions.{position_says}
use Rattle.lanes.specs.inner.Ranges.{DirectAt, Divides}
use Rattle.lanes.specs.inner.Still.{still_says, StillPositions}
use Rattle.lanes.specs.inner.Columns.{IsSide, InMarks}
use Rattle.lanes.specs.declared.columns.Side.{Side}
use Rattle.lanes.specs.declared.rows.ComparisonPart.{ComparisonPart}
use Rattle.lanes.specs.declared.rows.Sides.{Sides}
use Rattle.lanes.proofs.Reaching.{marks_there, swept_on}
use Rattle.lanes.proofs.Direct.{before_says, numbers_say_lem, lines_say_lem}
use Rattle.lanes.proofs.Positions.{positions_for_rows}
use Rattle.lanes.proofs.Still.{still_says_lem, direct_still}
use Rattle.lanes.proofs.Stretches.{none_swept}

-- the marks of a part from row 0 on
pub marks_from_first : (table : List ℕ) (n w : ℕ) → Sized table n w → (i count m : ℕ) → i < n → count ≤ w → m ≡ 4 + (i * w + 0) → InMarks table m count
marks_from_first table n w s i count m l h e = marks_there table n w s i 0 count m l (omega arith) e

pub long_lanes : (z : Sizes) {array lanes : List ℕ} → Laid array z.channels (all_stored z) lanes → LongLanes z lanes
long_lanes z laid = (laid.there, laid.few)

-- what is known of the comparison that part i is, once its ranges are found
pub record Ranged (plan table : List ℕ) (part : ComparisonPart) (sides : Sides) (back high : ℕ) (still : Bool) (r : Ranges) : Type 0 where
  pub fitting : Fitting plan part.sizes
  pub sized : Sized table part.n (all_rows part.sizes)
  pub present : part.i < part.n
  pub terms_fit : TermsFit part.sizes part.comparison
  pub asks_left : AsksLeft part.comparison
  pub left_side : IsSide plan part.comparison.left sides.left
  pub right_side : IsSide plan part.comparison.right sides.right
  pub farther : back ≡ max (reach part.comparison.left) (reach part.comparison.right)
  pub higher : high ≡ max sides.left.code sides.right.code
  pub divided : Divides part.sizes back high still r

-- and it is known from what the steps up to there say
pub ranged : (plan table : List ℕ) (part : ComparisonPart) (sides : Sides) {back high : ℕ} {still : Bool} {r : Ranges} → Fitting plan part.sizes
    → Sized table part.n (all_rows part.sizes) → part.i < part.n → TermsFit part.sizes part.comparison → AsksLeft part.comparison
    → IsSide plan part.comparison.left sides.left → IsSide plan part.comparison.right sides.right
    → back ≡ max (reach part.comparison.left) (reach part.comparison.right) → high ≡ max sides.left.code sides.right.code
    → Divides part.sizes back high still r → Ranged plan table part sides back high still r
ranged plan table part sides fits sized present terms asks left right back high divides = record {
  fitting = fits;
  sized = sized;
  present = present;
  terms_fit = terms;
  asks_left = asks;
  left_side = left;
  right_side = right;
  farther = back;
  higher = high;
  divided = divides;
}

module _ {plan table : List ℕ} {part : ComparisonPart} {sides : Sides} {back high : ℕ} {still : Bool} {r : Ranges} (known : Ranged plan table part sides back high still r) where
  abbrev z : Sizes
  z = part.sizes

  abbrev i : ℕ
  i = part.i

  abbrev x : Comparison
  x = part.comparison

  abbrev left : Side
  left = sides.left

  abbrev right : Side
  right = sides.right

  f : Fitting plan z
  f = known.fitting

  d : Divides z back high still r
  d = known.divided

  of_part : OfPart table part sides
  of_part = record {
    few_channels = f.few_channels;
    a_cycle = f.a_cycle;
    few_lead = f.few_lead;
    sized = known.sized;
    present = known.present;
    terms_fit = known.terms_fit;
    few_codes = (known.left_side.few, known.right_side.few);
    small = (known.left_side.small, known.right_side.small);
  }

  -- where both terms are read, from a position or from one so many rows behind
  low : (t : ℕ) → back ≤ t → (4 ≤ t + left.code) × (4 ≤ t + right.code)
  low t h =
      let farther = known.farther in
      (read_inside x.left 0 t left.code (omega arith) known.left_side.is_code, read_inside x.right 0 t right.code (omega arith) known.right_side.is_code)

  below : (t : ℕ) → t + high < all_rows z + 4 → (t + left.code < all_rows z + 4) × (t + right.code < all_rows z + 4)
  below t h = let higher = known.higher in (omega arith, omega arith)

  in_cycle : (t : ℕ) → z.start + back ≤ t → (z.start + 4 ≤ t + left.code) × (z.start + 4 ≤ t + right.code)
  in_cycle t h =
      let farther = known.farther in
      (read_inside x.left z.start t left.code (omega arith) known.left_side.is_code, read_inside x.right z.start t right.code (omega arith) known.right_side.is_code)

  -- a stretch all of whose positions are on the first pass
  stretch : (from to : ℕ) → to ≤ all_rows z → ((t : ℕ) → from ≤ t → t < to → DirectAt z back high t) → DirectRows table part sides from to
  stretch from to few on = record {
    of_part = of_part;
    few_rows = few;
    left_in = λ h. ((low (z.lead + from) (on from (omega arith) h).0).0, omega (arith, (below (to - 1) (on (to - 1) (omega arith) (omega arith)).1).0));
    right_in = λ h. ((low (z.lead + from) (on from (omega arith) h).0).1, omega (arith, (below (to - 1) (on (to - 1) (omega arith) (omega arith)).1).1));
  }

  pub numbers_stretch : DirectRows table part sides r.before r.numbers
  numbers_stretch = stretch r.before r.numbers (let order = d.in_order in omega arith) (λ t l k. (d.numbers_direct t l k).0)

  pub lines_stretch : DirectRows table part sides r.numbers r.end
  lines_stretch = stretch r.numbers r.end d.in_order.2 (λ t l k. (d.lines_direct t l k).0)

  -- the positions that are not direct, unless from one of them a term is read before position 0
  pub later_positions : back ≤ r.end → {to : ℕ} → (all_rows z ≤ to) × (to ≤ all_rows z + 4) → StillPositions table part sides r.end to
  later_positions h in_reach = record {
    of_part = of_part;
    few = in_reach.1;
    in_order = omega (arith, d.in_order.2, in_reach.0);
    in_run = low r.end h;
  }

  module _ {values steps : List ℕ} (lanes : Lanes plan z values steps still) where
    abbrev at : ℕ → Bool
    at = position_says plan table part (z.start + back)

    -- Where lines are swept something drifts.
    pub lines_lanes : r.numbers < r.end → LongLanes z steps
    lines_lanes h = long_lanes z (lanes.drifts_laid (d.lines_direct r.numbers (omega arith) h).2)

    before_swept : (m : ℕ) → m ≡ 4 + (i * all_rows z + 0) → {A : Bool} → A ≡ all_below (λ k. not (mark_in table (m + k))) r.before → A ≡ all_below at r.before
    unfolding marked mark_byte
    before_swept m first e =
        e ∙ all_ext _ _ r.before (λ t l.
        let order = d.in_order in
        let place : m + t ≡ 4 + (i * all_rows z + t) = omega arith in
        let reached = d.reach_before t l in
        let farther = known.farther in
        ap (λ (j : ℕ). not (eqb (get_or table j 0) 1)) place
        ∙ before_says table part sides f known.left_side known.right_side known.terms_fit (z.start + back) t (omega arith) known.asks_left (omega arith) (omega arith))

    -- where nothing drifts, the numbers tell all at every position at which no term is read before position 0
    still_at : still ≡ true → (t : ℕ) → back ≤ t → still_says values table part sides t ≡ at t
    still_at e t h = still_says_lem values table part sides f (lanes.no_drift e) lanes.readings_laid known.left_side known.right_side known.terms_fit (z.start + back) t (low t h) (in_cycle t)

    numbers_swept : {B : Bool} → B ≡ all_below (λ k. numbers_say values table part sides (r.before + k)) (r.numbers - r.before)
        → B ≡ all_below (λ k. at (r.before + k)) (r.numbers - r.before)
    numbers_swept e = e ∙ all_ext _ _ (r.numbers - r.before) (λ k l. position (r.before + k) (d.numbers_direct (r.before + k) (omega arith) (omega arith)) (let order = d.in_order in omega arith))
      where
        position : (t : ℕ) → DirectAt z back high t × (still ≡ false → t < z.start + back) → t < all_rows z → numbers_say values table part sides t ≡ at t
        position t on few =
            by_cases (dec_lt t (z.start + back))
            (numbers_say_lem table part sides f known.left_side known.right_side known.terms_fit (z.start + back) t few values lanes.readings_laid (below t on.0.1) (low (z.lead + t) on.0.0))
            (λ h. settled (omega arith) still refl)
          where
            settled : z.start + back ≤ t → (b : Bool) → still ≡ b → numbers_say values table part sides t ≡ at t
            settled h true e = direct_still values table part sides t few (low t (omega arith)) (below t on.0.1) ∙ still_at e t (omega arith)
            settled h false e = absurd (let early = on.1 e in omega arith)

    lines_swept : {D : Bool} → D ≡ all_below (λ k. lines_say values table part sides steps (r.numbers + k)) (r.end - r.numbers)
        → D ≡ all_below (λ k. at (r.numbers + k)) (r.end - r.numbers)
    lines_swept e =
        e ∙ all_ext _ _ (r.end - r.numbers) (λ k l.
        let on = d.lines_direct (r.numbers + k) (omega arith) (omega arith) in
        lines_say_lem table part sides f known.left_side known.right_side known.terms_fit (z.start + back) (r.numbers + k) (let order = d.in_order in omega arith) values lanes.readings_laid
        (below (r.numbers + k) on.0.1) (low (r.numbers + k) (omega (arith, on.1))) on.1 steps (lanes.drifts_laid on.2))

    -- the four together
    together : {A B D E : Bool} → A ≡ all_below at r.before → B ≡ all_below (λ k. at (r.before + k)) (r.numbers - r.before) → D ≡ all_below (λ k. at (r.numbers + k)) (r.end - r.numbers)
        → E ≡ all_below (λ k. at (r.end + k)) (all_rows z + back - r.end) → (((A && B) && D) && E) ≡ all_below (agrees_on plan table (all_rows z) i x) (all_rows z)
    together a b e g =
        let order = d.in_order in
        let farther = known.farther in
        swept_on at r.end (all_rows z + back) (omega arith) (swept_on at r.numbers r.end order.1 (swept_on at r.before r.numbers order.0 a b) e) g
        ∙ positions_for_rows table part f known.terms_fit back (omega arith) (omega arith)

    module _ (m : ℕ) (first : m ≡ 4 + (i * all_rows z + 0)) {A B : Bool} (a : A ≡ all_below (λ k. not (mark_in table (m + k))) r.before)
        (b : B ≡ all_below (λ k. numbers_say values table part sides (r.before + k)) (r.numbers - r.before)) where
      pub all_swept : {D E : Bool} → D ≡ all_below (λ k. lines_say values table part sides steps (r.numbers + k)) (r.end - r.numbers)
          → E ≡ all_below (λ k. at (r.end + k)) (all_rows z + back - r.end) → (((A && B) && D) && E) ≡ all_below (agrees_on plan table (all_rows z) i x) (all_rows z)
      all_swept e g = together (before_swept m first a) (numbers_swept b) (lines_swept e) g

      -- where nothing drifts there are no lines
      pub still_swept : still ≡ true → back ≤ r.end → {E : Bool} → E ≡ all_below (λ k. still_says values table part sides (r.end + k)) (all_rows z + back - r.end)
          → ((A && B) && E) ≡ all_below (agrees_on plan table (all_rows z) i x) (all_rows z)
      still_swept e h {E} g =
          ap (λ (c : Bool). c && E) (sym (and-true (A && B)))
          ∙ together (before_swept m first a) (numbers_swept b) (none_swept _ _ _ no_lines) (g ∙ all_ext _ _ _ (λ k l. still_at e (r.end + k) (omega arith)))
        where
          no_lines : r.end ≤ r.numbers
          no_lines = by_cases (dec_lt r.numbers r.end) (λ l. absurd (true≢false (sym e ∙ (d.lines_direct r.numbers (omega arith) l).2))) (λ l. omega arith)
