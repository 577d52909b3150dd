-- A call of an exported function with the number that it returns and the bytes that it leaves, and what these say. Assumes nothing.
use Rattle.std.specs.Prelude.{ℕ, List}
use Rattle.endless_run.specs.Promise.{CheckWordPromise, MakeWordPromise, SettleWordPromise, JudgeWordPromise}

pub data Call : Type 0 where
  -- endless_run_check, of a rule sheet, a plan and a mark table
  checks : (rule plan marks : List ℕ) (word : ℕ) → Call
  -- endless_run_make, of a rule sheet, a plan and a lent buffer with its bytes before and after
  makes : (rule plan before after : List ℕ) (word : ℕ) → Call
  -- endless_run_settle, of a rule sheet, a plan and two lent buffers with their bytes before and after
  settles : (rule plan laid scratch laid' scratch' : List ℕ) (word : ℕ) → Call
  -- endless_run_judge, for a part and a row of a rule sheet and a plan
  judges : (rule plan : List ℕ) (part row word : ℕ) → Call

-- The number is the one that the function returns, with all that it promises of it.
unfoldable pub Gives : Call → Type 0
Gives (checks rule plan marks word) = CheckWordPromise rule plan marks word
Gives (makes rule plan before after word) = MakeWordPromise rule plan before after word
Gives (settles rule plan laid scratch laid' scratch' word) = SettleWordPromise rule plan laid scratch laid' scratch' word
Gives (judges rule plan part row word) = JudgeWordPromise rule plan part row word
