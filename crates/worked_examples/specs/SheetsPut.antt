-- Parts put on rule sheets of the examples: the answer, and the bytes afterwards. Assumes nothing.
use Rattle.std.specs.Prelude.{Err, ℕ, ◌≡◌, List, [], ◌∷◌, pos, neg_ℤ}
use Rattle.refusal.specs.Outcome.{Outcome, unrefused}
use Rattle.refusal.specs.declared.Refusal.TheVariants.{RuleSizes, Operand, Absent}
use Rattle.cltlb.specs.declared.Part.{Part}
use Rattle.cltlb.specs.declared.Part.TheVariants.{Less, Window, Pinned}
use Rattle.cltlb.specs.declared.Term.TheVariants.{Constant}
use Rattle.rule.specs.Put.{put_outcome, put_bytes}
use Rattle.worked_examples.specs.Table.{rule_e1}
use Rattle.worked_examples.specs.MoreSheets.{rule_first_day, rule_long, rule_pinned, rule_pinned_back}
use Rattle.worked_examples.specs.SheetsRead.{x}

-- a part put on a sheet at a number, with the answer and the sheet's bytes afterwards
pub data PutRow : Type 0 where
  puts : (sheet : List ℕ) (n : ℕ) (part : Part) (answer : Outcome) (after : List ℕ) → PutRow

unfoldable pub PutsAs : PutRow → Type 0
PutsAs (puts sheet n part answer after) = (put_outcome sheet n part ≡ answer) × (put_bytes sheet n part ≡ after)

-- Kind 14 in the place of a comparison and of a window, whose bytes behind the first term become zero, a comparison and a window in its
-- place, and its shift. Refused, and then nothing is written: no such channel, no such shift, no such part, which comes before 3, and a
-- sheet of another length, which comes before both.
unfoldable pub sheets_put : List PutRow
sheets_put =
    puts rule_e1 0 (Pinned 0 (pos 0)) unrefused rule_pinned
    ∷ puts rule_first_day 0 (Pinned 0 (pos 0)) unrefused rule_pinned
    ∷ puts rule_pinned 0 (Less x (Constant (pos 25))) unrefused rule_e1
    ∷ puts rule_pinned 0 (Window 0 (pos 0) 540 1020) unrefused rule_first_day
    ∷ puts rule_pinned_back 1 (Pinned 0 (neg_ℤ (pos 2))) unrefused rule_pinned_back
    ∷ puts rule_e1 0 (Pinned 1 (pos 0)) (Err (Operand 0)) rule_e1
    ∷ puts rule_e1 0 (Pinned 0 (neg_ℤ (pos 5))) (Err (Operand 0)) rule_e1
    ∷ puts rule_e1 1 (Pinned 0 (pos 0)) (Err Absent) rule_e1
    ∷ puts rule_e1 1 (Pinned 1 (pos 0)) (Err Absent) rule_e1
    ∷ puts rule_long 1 (Pinned 1 (pos 0)) (Err RuleSizes) rule_long
    ∷ []
