-- What the calls on a live state promise, on every state, and what an answer means after every list of calls. Assumes nothing.
use Rattle.std.specs.Prelude.{Result, Err, ℕ, ◌<◌, ◌≡◌, List}
use Rattle.refusal.specs.declared.Refusal.{Refusal}
use Rattle.refusal.specs.Outcome.{Outcome, unrefused}
use Rattle.live.specs.declared.Live.{Live}
use Rattle.live.specs.declared.Answer.{Answer}
use Rattle.live.specs.State.{start_outcome, empty_live, answer_of, unless_refused}
use Rattle.live.specs.Calls.{Call, OfBytes, AllSent, outcome_meant, places_meant, Tells, outcome_of, state_after, reached}

-- a start, on a state that may be any
pub record StartPromise (before : Live) (v : ℕ) (tops : List ℕ) (after : Live) (outcome : Outcome) : Type 0 where
  -- 4, or none
  pub is_start : outcome ≡ start_outcome v tops
  -- the empty state, or where it is refused the state as it was
  pub state : after ≡ unless_refused outcome (empty_live v tops) before

-- an add, a drop or a row
pub record CallPromise (call : Call) (before after : Live) (outcome : Outcome) : Type 0 where
  -- the first refusal that applies, or none
  pub is_call : outcome ≡ outcome_of call before
  -- the state after it
  pub state : after ≡ state_after call before
  -- A refused call leaves the state as it was, whatever state that is.
  pub unchanged : (r : Refusal) → outcome ≡ Err r → after ≡ before
  -- After every list of calls from an empty state, it is refused as the places mean.
  pub refuses : (v : ℕ) (tops : List ℕ) (calls : List Call)
      → start_outcome v tops ≡ unrefused → OfBytes tops → AllSent calls → before ≡ reached v tops calls
      → outcome ≡ outcome_meant v tops call (places_meant v tops calls)

-- the answer of a place
pub record AnswerPromise (state : Live) (p : ℕ) (told : Result Answer Refusal) : Type 0 where
  pub is_answer : told ≡ answer_of state p
  -- After every list of adds, drops and rows from an empty state, refused calls standing anywhere, it is "empty", "not yet", or the
  -- published truth of the whole rule at the last row, over the rows since the rule was added.
  pub meaning : (v : ℕ) (tops : List ℕ) (calls : List Call)
      → start_outcome v tops ≡ unrefused → OfBytes tops → AllSent calls → state ≡ reached v tops calls
      → p < 4 → Tells (places_meant v tops calls p) told
