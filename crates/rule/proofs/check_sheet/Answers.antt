use native.Mathlib.Omega.{arith}
use mathlib.Core.Path.{refl, sym, ◌∙◌}
use Rattle.std.proofs.Common.{rules}
use Rattle.rule.proofs.SizesRead.{right_sizes}
use Rattle.rule.proofs.SizesKnown.{counts_known}
use Rattle.rule.proofs.WholeSheet as law
use Rattle.rule.proofs.check_sheet.Goals as goal

pub returns-in_err-sizes : goal.returns-in_err-sizes
returns-in_err-sizes c = let e = law.read_refused c.args.sheet.now (law.sheet_sizes c.args.sheet.now (sym c.read_sizes.ensures ∙ c.in_err-sizes.ensures.ok_part)) refl in search rules

pub check_kinds-requires : goal.check_kinds-requires
check_kinds-requires c = omega (arith, counts_known c.args.sheet.now (sym c.read_sizes.ensures ∙ c.in_ok-sizes.ensures.ok_part))

pub returns-in_err-check_kinds : goal.returns-in_err-check_kinds
returns-in_err-check_kinds c = let e = law.read_refused c.args.sheet.now (law.sheet_kinds c.args.sheet.now
    (sym c.read_sizes.ensures ∙ c.in_ok-sizes.ensures.ok_part)
    c.check_kinds.ensures c.in_err-check_kinds.was) c.in_err-check_kinds.was in search rules

pub check_operands-requires : goal.check_operands-requires
check_operands-requires c = let sheet = c.args.sheet.now in
    let read = sym c.read_sizes.ensures ∙ c.in_ok-sizes.ensures.ok_part in
    (law.kinds_known sheet read c.check_kinds.ensures c.in_ok-check_kinds.was, (right_sizes sheet read).2)

pub returns-in_err-check_operands : goal.returns-in_err-check_operands
returns-in_err-check_operands c = let e = law.read_refused c.args.sheet.now
    (law.sheet_operands c.args.sheet.now (sym c.read_sizes.ensures ∙ c.in_ok-sizes.ensures.ok_part)
    c.check_kinds.ensures c.in_ok-check_kinds.was c.check_operands.ensures)
    c.in_err-check_operands.was in search rules

pub returns : goal.returns
returns c = law.read_counts c.args.sheet.now
    (law.sheet_operands c.args.sheet.now (sym c.read_sizes.ensures ∙ c.in_ok-sizes.ensures.ok_part)
    c.check_kinds.ensures c.in_ok-check_kinds.was c.check_operands.ensures)
    (sym c.read_sizes.ensures ∙ c.in_ok-sizes.ensures.ok_part) c.in_ok-check_operands.was
