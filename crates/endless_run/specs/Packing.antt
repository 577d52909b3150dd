-- An answer as one number of 64 bits, and a number taken apart. Assumes nothing.
use Rattle.std.specs.Prelude.{Result, Ok, Err, ℕ, ◌+◌, ◌*◌, ◌/◌, ◌%◌, Bool, true, false}
use Rattle.refusal.specs.declared.Refusal.{Refusal}
use Rattle.refusal.specs.Outcome.{Outcome}
use Rattle.refusal.specs.declared.Report.{Report}
use Rattle.refusal.specs.Report.{report, report_of}
use Rattle.verdict.specs.declared.Verdict.{Verdict}
use Rattle.verdict.specs.declared.Verdict.TheVariants.{AlwaysTrue, AlwaysFalse, Changes}
use Rattle.live.specs.declared.Answer.{Answer}
use Rattle.live.specs.declared.Answer.TheVariants as A

-- refused: number × 2^32 + part × 2^16 + row
unfoldable pub refusal_word : Refusal → ℕ
refusal_word r = (report_of r).number * 4294967296 + (report_of r).part * 65536 + (report_of r).row

-- taken apart as C does: the number, and the lowest four bytes as part and row
unfoldable pub unpacked : ℕ → Report
unpacked word = report (word / 4294967296) (word / 65536 % 65536) (word % 65536)

-- accepted: the verdict, 0 or 1
abbrev pub verdict_bit : Bool → ℕ
verdict_bit true = 1
verdict_bit false = 0

unfoldable pub check_word : Result Bool Refusal → ℕ
check_word (Ok v) = verdict_bit v
check_word (Err r) = refusal_word r

-- made: the verdict, 0 or 1, as of a table that is accepted
abbrev pub make_word : Result Bool Refusal → ℕ
make_word = check_word

-- settled: how many passes are laid out
unfoldable pub settle_word : Result ℕ Refusal → ℕ
settle_word (Ok n) = n
settle_word (Err r) = refusal_word r

-- judged: 0 always false, 1 always true, 2 changes
abbrev pub verdict_word : Verdict → ℕ
verdict_word AlwaysFalse = 0
verdict_word AlwaysTrue = 1
verdict_word Changes = 2

unfoldable pub judge_word : Result Verdict Refusal → ℕ
judge_word (Ok v) = verdict_word v
judge_word (Err r) = refusal_word r

-- a call on a live state: 0, or refused
unfoldable pub outcome_word : Outcome → ℕ
outcome_word (Ok _) = 0
outcome_word (Err r) = refusal_word r

-- told of a place: 0 false, 1 true, 2 not yet, 3 empty
abbrev pub told_word : Answer → ℕ
told_word (A.Truth b) = verdict_bit b
told_word A.NotYet = 2
told_word A.Empty = 3

unfoldable pub answer_word : Result Answer Refusal → ℕ
answer_word (Ok told) = told_word told
answer_word (Err r) = refusal_word r
