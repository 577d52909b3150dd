use mathlib.Core.Path.{sym, ◌∙◌}
use Rattle.std.proofs.Common.{rules}
use Rattle.rule.proofs.SizesRead.{right_sizes}
use Rattle.rule.proofs.Putting as law
use Rattle.rule.proofs.Promised.{put_refused, put_kept}
use Rattle.rule.proofs.put.Goals as goal

pub returns-in_err-sizes : goal.returns-in_err-sizes
returns-in_err-sizes c = let e = put_refused _ _ _ (law.put_sizes c.args.sheet.now c.args.n c.args.part (sym c.read_sizes.ensures ∙ c.in_err-sizes.ensures.ok_part)) in search rules

pub returns-then-sizes-n : goal.returns-then-sizes-n
returns-then-sizes-n c = put_refused _ _ _ (law.put_absent c.args.sheet.now c.args.n c.args.part (sym c.read_sizes.ensures ∙ c.in_ok-sizes.ensures.ok_part) c.if-sizes-n.true)

pub write_part-requires : goal.write_part-requires
write_part-requires c = (
  (right_sizes c.args.sheet.now (sym c.read_sizes.ensures ∙ c.in_ok-sizes.ensures.ok_part)).1,
  sym (law.fit_clear c.args.sheet.now c.args.n
      c.args.part (sym c.read_sizes.ensures ∙ c.in_ok-sizes.ensures.ok_part)
      c.if-sizes-n.false (sym c.part_fits.ensures ∙ c.if-not-part_fits.false)),
)

pub returns : goal.returns
returns c = put_kept _ _ _ c.write_part.ensures.1
    (law.put_done_lem c.args.sheet.now c.args.n c.args.part
    (sym c.read_sizes.ensures ∙ c.in_ok-sizes.ensures.ok_part) c.if-sizes-n.false
    (sym c.part_fits.ensures ∙ c.if-not-part_fits.false) c.write_part.ensures.0)

pub returns-then-not-part_fits : goal.returns-then-not-part_fits
returns-then-not-part_fits c = put_refused _ _ _
    (law.put_misfit c.args.sheet.now c.args.n c.args.part
    (sym c.read_sizes.ensures ∙ c.in_ok-sizes.ensures.ok_part) c.if-sizes-n.false
    (sym c.part_fits.ensures ∙ c.if-not-part_fits.true))
