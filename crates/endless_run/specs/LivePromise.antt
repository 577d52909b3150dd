-- What the exported calls on a live state promise of the numbers that they return and of the state, on every state. Assumes nothing.
use Rattle.std.specs.Prelude.{Result, Err, ℕ, ◌<◌, ◌≡◌, List}
use Rattle.refusal.specs.Outcome.{unrefused}
use Rattle.refusal.specs.declared.Refusal.{Refusal}
use Rattle.refusal.specs.Report.{report_of}
use Rattle.live.specs.declared.Live.{Live}
use Rattle.live.specs.declared.Answer.{Answer}
use Rattle.live.specs.State.{start_outcome, empty_live, answer_of, unless_refused}
use Rattle.live.specs.Calls.{Call, add, remove, row, OfBytes, AllSent, outcome_meant, places_meant, Tells, outcome_of, state_after, reached}
use Rattle.endless_run.specs.Packing.{unpacked, outcome_word, answer_word}

-- endless_run_live_start, on a state that may be any
pub record StartWordPromise (before : Live) (v : ℕ) (tops : List ℕ) (after : Live) (word : ℕ) : Type 0 where
  -- 0, or refused with 4
  pub is_start : word ≡ outcome_word (start_outcome v tops)
  -- the empty state, or where it is refused the state as it was
  pub state : after ≡ unless_refused (start_outcome v tops) (empty_live v tops) before
  pub unchanged : (word ≡ 0 → ⊥) → after ≡ before
  -- a refusal, taken apart, is the document's number, part and row
  pub reports : (r : Refusal) → start_outcome v tops ≡ Err r → unpacked word ≡ report_of r

-- endless_run_live_add, endless_run_live_drop and endless_run_live_row
pub record CallWordPromise (call : Call) (before after : Live) (word : ℕ) : Type 0 where
  -- 0, or the first refusal that applies
  pub is_call : word ≡ outcome_word (outcome_of call before)
  -- the state after it
  pub state : after ≡ state_after call before
  -- A refused call leaves the state as it was, whatever state that is.
  pub unchanged : (word ≡ 0 → ⊥) → after ≡ before
  -- After every list of calls from an empty state, it is refused as the places mean.
  pub refuses : (v : ℕ) (tops : List ℕ) (calls : List Call)
      → start_outcome v tops ≡ unrefused → OfBytes tops → AllSent calls → before ≡ reached v tops calls
      → word ≡ outcome_word (outcome_meant v tops call (places_meant v tops calls))
  -- a refusal, taken apart, is the document's number, part and row
  pub reports : (r : Refusal) → outcome_of call before ≡ Err r → unpacked word ≡ report_of r

unfoldable pub AddWordPromise : Live → ℕ → List ℕ → Live → ℕ → Type 0
AddWordPromise before place sheet after word = CallWordPromise (add place sheet) before after word

unfoldable pub DropWordPromise : Live → ℕ → Live → ℕ → Type 0
DropWordPromise before place after word = CallWordPromise (remove place) before after word

unfoldable pub RowWordPromise : Live → List ℕ → Live → ℕ → Type 0
RowWordPromise before bytes after word = CallWordPromise (row bytes) before after word

-- endless_run_live_answer: 0 false, 1 true, 2 not yet, 3 empty
pub record AnswerWordPromise (state : Live) (place word : ℕ) : Type 0 where
  pub is_answer : word ≡ answer_word (answer_of state place)
  -- After every list of adds, drops and rows from an empty state, refused calls standing anywhere, the number stands for "empty", "not
  -- yet", or the published truth of the whole rule at the last row, over the rows since the rule was added.
  pub meaning : (v : ℕ) (tops : List ℕ) (calls : List Call)
      → start_outcome v tops ≡ unrefused → OfBytes tops → AllSent calls → state ≡ reached v tops calls
      → place < 4 → (told : Result Answer Refusal) × (word ≡ answer_word told) × Tells (places_meant v tops calls place) told
  -- a refusal, taken apart, is the document's number, part and row
  pub reports : (r : Refusal) → answer_of state place ≡ Err r → unpacked word ≡ report_of r
