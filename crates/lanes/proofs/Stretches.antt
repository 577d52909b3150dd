-- A stretch of direct rows: its columns lie in the lanes, its marks in the table, and what a sweep finds of them is said of the
-- rows. Assumes nothing.
use Prim.Native.Nat.{ℕ, ◌+◌, ◌*◌, ◌-◌, ◌≤◌, ◌<◌}
use native.Mathlib.Omega.{arith}
use mathlib.Core.Path.{◌≡◌, refl, ap, ap₂, ◌∙◌}
use mathlib.Core.Bool.{Bool, true, beq}
use mathlib.Core.List.{List}
use lib.Dec.{eqb}
use lib.IntN.{ℤ, pos}
use lib.ListN.{get_or}
use Rattle.plan.specs.inner.Sizes.{all_rows, all_stored, most_stored}
use Rattle.plan.specs.declared.sizes.Sizes.{Sizes}
use Rattle.table.specs.Layout.{mark_byte, marked}
use Rattle.table.specs.inner.Tables.{all_below, mark_in}
use Rattle.table.proofs.AllBelow.{sweep_first, all_ext}
use Rattle.verdict.specs.Comparisons.{tested}
use Rattle.verdict.specs.Lines.{Line}
use Rattle.verdict.specs.Tops.{judge_under}
use Rattle.verdict.specs.declared.Comparison.{Comparison}
use Rattle.cltlb.specs.declared.Term.{Term}
use Rattle.lanes.specs.declared.columns.Column.{Column}
use Rattle.lanes.specs.declared.columns.Side.{Side}
use Rattle.lanes.specs.declared.rows.ComparisonPart.{ComparisonPart}
use Rattle.lanes.specs.declared.rows.Sides.{Sides}
use Rattle.lanes.specs.declared.stretch.Stretch.{Stretch}
use Rattle.cltlb.specs.Run.{under}
use Rattle.fields.specs.inner.Biased.{bias}
use Rattle.lanes.specs.inner.Agreement.{verdict_agrees, seen_agree, under_agree}
use Rattle.lanes.specs.inner.Columns.{line_in, seen_in, InLanes, InMarks, FewChannels, Stands, lane_number, lane_line, lane_seen}
use Rattle.lanes.specs.inner.Direct.{numbers_say, lines_say, DirectRows, LongLanes}
use Rattle.lanes.specs.inner.Stretches.{mark_of, all_seen_agree, OnRows}
use Rattle.lanes.proofs.Reaching.{marks_there}
use Rattle.lanes.proofs.Standing.{few_channels, column_number, column_line, column_reaches}

-- No row is swept.
pub none_swept : (f : ℕ → Bool) (from to : ℕ) → to ≤ from → true ≡ all_below f (to - from)
none_swept f from to h = sweep_first f ∙ ap (all_below f) (omega arith)

-- the mark of a part, k rows on
mark_on : (table : List ℕ) (w i from m k : ℕ) → m ≡ 4 + (i * w + from) → mark_in table (m + k) ≡ marked w table i (from + k)
unfolding marked mark_byte
mark_on table w i from m k e = let place : m + k ≡ 4 + (i * w + (from + k)) = omega arith in ap (λ (j : ℕ). eqb (get_or table j 0) 1) place

module _ {table : List ℕ} {part : ComparisonPart} {sides : Sides} {from to : ℕ} (d : DirectRows table part sides from to) where
  abbrev z : Sizes
  z = part.sizes

  abbrev i : ℕ
  i = part.i

  abbrev x : Comparison
  x = part.comparison

  abbrev left : Side
  left = sides.left

  abbrev right : Side
  right = sides.right

  -- what a column and a mark's place ask for
  pub few_all : (all_rows z ≤ 256) × (all_stored z ≤ most_stored)
  few_all = let few = d.of_part.sized.few_rows in (few, omega (arith, d.of_part.few_lead))

  pub at_place : (all_rows z ≤ 256) × (i < 64) × (from < to → from ≤ 256)
  at_place = (few_all.0, omega (arith, d.of_part.present, d.of_part.sized.few_parts), λ h. omega (arith, d.few_rows, few_all))

  module _ (h : from < to) where
    pub left_column : (all_stored z ≤ most_stored) × (z.lead + from < all_stored z) × (left.code ≤ 8) × (4 ≤ z.lead + from + left.code) × FewChannels x.left
    left_column =
        let rows = d.few_rows in
        (few_all.1, omega arith, d.of_part.few_codes.0, (d.left_in h).0, few_channels z.channels x.left d.of_part.few_channels d.of_part.terms_fit.0)

    pub right_column : (all_stored z ≤ most_stored) × (z.lead + from < all_stored z) × (right.code ≤ 8) × (4 ≤ z.lead + from + right.code) × FewChannels x.right
    right_column =
        let rows = d.few_rows in
        (few_all.1, omega arith, d.of_part.few_codes.1, (d.right_in h).0, few_channels z.channels x.right d.of_part.few_channels d.of_part.terms_fit.1)

    pub in_marks : (m : ℕ) → m ≡ 4 + (i * all_rows z + from) → InMarks table m (to - from)
    in_marks m place = let rows = d.few_rows in marks_there table part.n (all_rows z) d.of_part.sized i from (to - from) m d.of_part.present (omega arith) place

    module _ (p q : Column) (s : Stands (all_stored z) (z.lead + from) left.code x.left p × (p.top ≡ left.top)) (t : Stands (all_stored z) (z.lead + from) right.code x.right q × (q.top ≡ right.top)) where
      -- their tops are small
      pub small_tops : (p.top < bias) × (q.top < bias)
      small_tops = (omega (arith, s.1, d.of_part.small.0), omega (arith, t.1, d.of_part.small.1))

      pub in_lanes : {lanes : List ℕ} → LongLanes z lanes → InLanes lanes p q (to - from)
      in_lanes {lanes} long = record {
        left = column_reaches (all_stored z) (z.lead + from) left.code (d.left_in h).0 lanes z.channels (to - from) x.left p d.of_part.terms_fit.0 long.0 (omega (arith, (d.left_in h).1)) s.0;
        right = column_reaches (all_stored z) (z.lead + from) right.code (d.right_in h).0 lanes z.channels (to - from) x.right q d.of_part.terms_fit.1 long.0 (omega (arith, (d.right_in h).1)) t.0;
        few = long.1;
      }

    -- ---- what a sweep of the stretch finds

    module _ {values : List ℕ} {s : Stretch} (on : OnRows values table part sides from to s) where
      pub tops_small : (s.x.top < bias) × (s.y.top < bias)
      tops_small = small_tops s.x s.y (on.left_stands, on.left_top) (on.right_stands, on.right_top)

      -- the lanes of the drifts are long enough too
      pub in_drifts : {drifts : List ℕ} → LongLanes z drifts → InLanes drifts s.x s.y s.count
      in_drifts long = rw on.count_is (in_lanes s.x s.y (on.left_stands, on.left_top) (on.right_stands, on.right_top) long)

      -- the k-th row from one on, behind the lead-in
      behind : (k : ℕ) → z.lead + from + k ≡ z.lead + (from + k)
      behind k = omega arith

      mark_is : (k : ℕ) → mark_of s k ≡ marked (all_rows z) table i (from + k)
      mark_is k = ap (λ (l : List ℕ). mark_in l (s.m + k)) on.table_is ∙ mark_on table (all_rows z) i from s.m k on.m_is

      pub numbers_said : {r : Bool} → r ≡ all_seen_agree x.relation s → r ≡ all_below (λ k. numbers_say values table part sides (from + k)) (to - from)
      numbers_said e =
          e
          ∙ ap (all_below (λ k. seen_agree x.relation s.values.now s.x s.y (mark_of s k) k)) on.count_is
          ∙ all_ext _ _ (to - from) (λ k _. ap₂ beq (mark_is k)
          (ap₂ (tested x.relation) (seen x.left left s.x (d.left_in h).0 on.left_stands on.left_top k) (seen x.right right s.y (d.right_in h).0 on.right_stands on.right_top k)))
        where
          seen : (y : Term) (side : Side) (c : Column) → 4 ≤ z.lead + from + side.code → Stands (all_stored z) (z.lead + from) side.code y c → c.top ≡ side.top → (k : ℕ)
              → seen_in s.values.now c k ≡ lane_seen values (all_stored z) y side (z.lead + (from + k))
          seen y side c low stands top k =
              ap₂ (λ (m : ℕ) (b : ℤ). under (pos m) b) top
              (column_number (all_stored z) (z.lead + from) side.code low s.values.now y c k stands
              ∙ ap₂ (λ (l : List ℕ) (row : ℕ). lane_number l (all_stored z) y side.code row) on.values_are (behind k))

      pub lines_said : (drifts : List ℕ) {r : Bool} → r ≡ all_below (λ k. under_agree x.relation s.values.now drifts s.x s.y (mark_of s k) k) s.count
          → r ≡ all_below (λ k. lines_say values table part sides drifts (from + k)) (to - from)
      lines_said drifts e =
          e
          ∙ ap (all_below (λ k. under_agree x.relation s.values.now drifts s.x s.y (mark_of s k) k)) on.count_is
          ∙ all_ext _ _ (to - from) (λ k _. ap₂ verdict_agrees
          (same_verdict on.left_top (line x.left left.code s.x (d.left_in h).0 on.left_stands k) on.right_top (line x.right right.code s.y (d.right_in h).0 on.right_stands k))
          (mark_is k))
        where
          line : (y : Term) (code : ℕ) (c : Column) → 4 ≤ z.lead + from + code → Stands (all_stored z) (z.lead + from) code y c → (k : ℕ)
              → line_in s.values.now drifts c k ≡ lane_line values drifts (all_stored z) y code (z.lead + (from + k))
          line y code c low stands k =
              column_line (all_stored z) (z.lead + from) code low s.values.now drifts y c k stands
              ∙ ap₂ (λ (l : List ℕ) (row : ℕ). lane_line l drifts (all_stored z) y code row) on.values_are (behind k)

          same_verdict : {a b : ℕ} {u v : Line} {e g : ℕ} {w y : Line} → a ≡ b → u ≡ v → e ≡ g → w ≡ y → judge_under x.relation (pos a) u (pos e) w ≡ judge_under x.relation (pos b) v (pos g) y
          same_verdict m n o p = rw (m, n, o, p) refl
