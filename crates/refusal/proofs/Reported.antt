-- The report of a refusal names that refusal and no other. Assumes nothing.
use mathlib.Core.Path.{◌≡◌, refl, sym, ap, ◌∙◌}
use mathlib.Core.Bool.{cond}
use lib.Dec.{eqb}
use Rattle.refusal.specs.Report.{report_of}
use Rattle.refusal.specs.declared.Report.{Report}
use Rattle.refusal.specs.declared.Refusal.{Refusal}
use Rattle.refusal.specs.declared.Refusal.TheVariants.{RuleSizes, Kind, Operand, PlanSizes, Channels, StartDrift, MarkSizes, MarkByte, Equation, Closing, Witness, Absent, BufferLength, NoTable, NoLayout, Unwatchable, Unfitting}

-- the refusal of a report
abbrev refusal_in : Report → Refusal
refusal_in x =
    cond (eqb x.number 1) RuleSizes
    (cond (eqb x.number 2) (Kind x.part)
    (cond (eqb x.number 3) (Operand x.part)
    (cond (eqb x.number 4) PlanSizes
    (cond (eqb x.number 5) Channels
    (cond (eqb x.number 6) (StartDrift x.row)
    (cond (eqb x.number 7) MarkSizes
    (cond (eqb x.number 8) (MarkByte x.part x.row)
    (cond (eqb x.number 9) (Equation x.part x.row)
    (cond (eqb x.number 10) (Closing x.part x.row)
    (cond (eqb x.number 11) (Witness x.part)
    (cond (eqb x.number 12) Absent
    (cond (eqb x.number 13) BufferLength
    (cond (eqb x.number 14) (NoTable x.part x.row)
    (cond (eqb x.number 15) NoLayout (cond (eqb x.number 16) Unwatchable Unfitting)))))))))))))))

in_report : (r : Refusal) → refusal_in (report_of r) ≡ r
in_report RuleSizes = refl
in_report (Kind p) = refl
in_report (Operand p) = refl
in_report PlanSizes = refl
in_report Channels = refl
in_report (StartDrift r) = refl
in_report MarkSizes = refl
in_report (MarkByte p r) = refl
in_report (Equation p r) = refl
in_report (Closing p r) = refl
in_report (Witness p) = refl
in_report Absent = refl
in_report BufferLength = refl
in_report (NoTable p r) = refl
in_report NoLayout = refl
in_report Unwatchable = refl
in_report Unfitting = refl

pub one_report : (r q : Refusal) → report_of r ≡ report_of q → r ≡ q
one_report r q e = sym (in_report r) ∙ ap refusal_in e ∙ in_report q
