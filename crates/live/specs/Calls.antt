-- Lists of calls on a live state, what each place then means, and the state that they lead to. Assumes nothing.
use Rattle.std.specs.Prelude.{Result, Ok, Err, ℕ, ◌*◌, ◌-◌, ◌<◌, ◌≡◌, Bool, true, false, cond, not, ◌↔◌, List, [], ◌∷◌, T, eqb, length, get_or}
use Rattle.refusal.specs.Outcome.{Outcome}
use Rattle.refusal.specs.declared.Refusal.{Refusal}
use Rattle.refusal.specs.declared.Refusal.TheVariants.{Unfitting}
use Rattle.refusal.specs.First.{unless}
use Rattle.cltlb.specs.Run.{Run, under}
use Rattle.cltlb.specs.Truth.{Formula, Holds}
use Rattle.cltlb.specs.Parts.{formula_of}
use Rattle.rule.specs.Layout.{part_count}
use Rattle.rule.specs.Take.{views_of}
use Rattle.plan.specs.Layout.{entry}
use Rattle.past.specs.Rows.{Row, run_of, BeginsWith}
use Rattle.live.specs.declared.Live.{Live}
use Rattle.live.specs.declared.Answer.{Answer}
use Rattle.live.specs.declared.Answer.TheVariants as answer
use Rattle.live.specs.State.{is_held, watch_at, empty_live, row_outcome, after_row, add_outcome, after_add, drop_outcome, after_drop, unless_refused}

-- Calls as C makes them: a place and a rule sheet; a place; a row of readings of 4 bytes each.
pub data Call : Type 0 where
  add : ℕ → List ℕ → Call
  remove : ℕ → Call
  row : List ℕ → Call

-- What is handed over is bytes.
unfoldable pub OfBytes : List ℕ → Type 0
OfBytes s = (i : ℕ) → get_or s i 0 < 256

unfoldable pub Sent : Call → Type 0
Sent (add p sheet) = OfBytes sheet
Sent (remove p) = Unit {0}
Sent (row bytes) = OfBytes bytes

unfoldable pub AllSent : List Call → Type 0
AllSent [] = Unit {0}
AllSent (call ∷ calls) = Sent call × AllSent calls

-- ---- what a place means: the rule that it holds, and the rows since its add, the newest first

pub data Place : Type 0 where
  vacant : Place
  watched : List ℕ → List Row → Place

unfoldable pub is_vacant : Place → Bool
is_vacant vacant = true
is_vacant (watched sheet rows) = false

-- what is seen of the channels of a row, each reading under its top
unfoldable pub row_seen : List ℕ → List ℕ → Row
row_seen tops bytes channel = under (entry tops channel) (entry bytes channel)

-- a row comes to every rule that is there
unfoldable pub extended : Row → Place → Place
extended r vacant = vacant
extended r (watched sheet rows) = watched sheet (r ∷ rows)

-- with x at place p
unfoldable pub placed : ℕ → Place → (ℕ → Place) → ℕ → Place
placed p x places q = cond (eqb q p) x (places q)

-- for a state of v channels with these tops
module _ (v : ℕ) (tops : List ℕ) where
  -- the first refusal that applies to a call, by what the places mean
  unfoldable pub outcome_meant : Call → (ℕ → Place) → Outcome
  outcome_meant (add p sheet) places = add_outcome v p sheet (is_vacant (places p))
  outcome_meant (remove p) places = drop_outcome p (is_vacant (places p))
  outcome_meant (row bytes) places = unless (eqb (length bytes) (4 * v)) Unfitting

  -- For a rule just added the next row is position 0.
  unfoldable pub changed_places : Call → (ℕ → Place) → ℕ → Place
  changed_places (add p sheet) places = placed p (watched sheet []) places
  changed_places (remove p) places = placed p vacant places
  changed_places (row bytes) places = λ q. extended (row_seen tops bytes) (places q)

  -- a refused call changes nothing
  unfoldable pub places_unless : Outcome → (ℕ → Place) → (ℕ → Place) → ℕ → Place
  places_unless (Ok _) new old = new
  places_unless (Err r) new old = old

  unfoldable pub places_after : List Call → (ℕ → Place) → ℕ → Place
  places_after [] places = places
  places_after (call ∷ calls) places = places_after calls (places_unless (outcome_meant call places) (changed_places call places) places)

  -- what the places mean after a list of calls from the empty state
  unfoldable pub places_meant : List Call → ℕ → Place
  places_meant calls = places_after calls (λ q. vacant)

-- The last part is the whole rule.
unfoldable pub whole_rule : List ℕ → Formula
whole_rule sheet = formula_of (views_of sheet) (part_count sheet - 1)

-- What is to be told of a place: "empty"; "not yet" before a first row; then the published truth of the whole rule at the last row, over
-- the run of the rows since the add, and so over every endless run that begins with them.
unfoldable pub Tells : Place → Result Answer Refusal → Type 0
Tells vacant told = told ≡ Ok answer.Empty
Tells (watched sheet []) told = told ≡ Ok answer.NotYet
Tells (watched sheet (r ∷ rows)) told = (b : Bool)
    × (told ≡ Ok (answer.Truth b))
    × (T b ↔ Holds (run_of (r ∷ rows)) (whole_rule sheet) (length rows))
    × ((q : Run) → BeginsWith q (r ∷ rows) → T b ↔ Holds q (whole_rule sheet) (length rows))

-- ---- the state that calls lead to

unfoldable pub outcome_of : Call → Live → Outcome
outcome_of (add p sheet) s = add_outcome s.channels p sheet (not (is_held (watch_at s p)))
outcome_of (remove p) s = drop_outcome p (not (is_held (watch_at s p)))
outcome_of (row bytes) s = row_outcome s bytes

unfoldable pub changed_state : Call → Live → Live
changed_state (add p sheet) s = after_add s p sheet
changed_state (remove p) s = after_drop s p
changed_state (row bytes) s = after_row s bytes

unfoldable pub state_after : Call → Live → Live
state_after call s = unless_refused (outcome_of call s) (changed_state call s) s

unfoldable pub states_after : List Call → Live → Live
states_after [] s = s
states_after (call ∷ calls) s = states_after calls (state_after call s)

-- the state after a list of calls from the empty state
unfoldable pub reached : ℕ → List ℕ → List Call → Live
reached v tops calls = states_after calls (empty_live v tops)
