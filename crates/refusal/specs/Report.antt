-- The number, the part and the row of each refusal, 0 where none is named. Assumes nothing.
use Rattle.std.specs.Prelude.{ℕ}
use Rattle.refusal.specs.declared.Refusal.{Refusal}
use Rattle.refusal.specs.declared.Refusal.TheVariants.{RuleSizes, Kind, Operand, PlanSizes, Channels, StartDrift, MarkSizes, MarkByte, Equation, Closing, Witness, Absent, BufferLength, NoTable, NoLayout, Unwatchable, Unfitting}
use Rattle.refusal.specs.declared.Report.{Report}

abbrev pub report : ℕ → ℕ → ℕ → Report
report n p r = record { number = n; part = p; row = r }

-- 1 The rule sheet's sizes or length. 2 A kind byte. 3 An operand. 4 The plan's sizes or length. 5 The plan's V differs
-- from the rule's. 6 A lead-in or start row has a drift. 7 The mark table's sizes or length. 8 A mark byte. 9 A mark breaks its
-- equation. 10 A part does not close. 11 A witness. 12 The part or row named by the caller, or the part to be judged is no atom.
-- 13 A lent buffer's length. 14 No mark table is accepted: a part does not close. 15 No number of passes laid out makes every
-- part close with 256 rows or fewer and all readings in 32 bits. 16 A rule that cannot be watched: X, U, R, a shift above 0, or another V
-- than the live state. 17 A call that does not fit the live state: a place above 3, taken or empty, or a row of another number of
-- readings.
abbrev pub report_of : Refusal → Report
report_of RuleSizes = report 1 0 0
report_of (Kind p) = report 2 p 0
report_of (Operand p) = report 3 p 0
report_of PlanSizes = report 4 0 0
report_of Channels = report 5 0 0
report_of (StartDrift r) = report 6 0 r
report_of MarkSizes = report 7 0 0
report_of (MarkByte p r) = report 8 p r
report_of (Equation p r) = report 9 p r
report_of (Closing p r) = report 10 p r
report_of (Witness p) = report 11 p 0
report_of Absent = report 12 0 0
report_of BufferLength = report 13 0 0
report_of (NoTable p r) = report 14 p r
report_of NoLayout = report 15 0 0
report_of Unwatchable = report 16 0 0
report_of Unfitting = report 17 0 0
