use Rattle.std.proofs.Common.{ap, ◌+◌, ◌*◌}
use Rattle.refusal.specs.declared.Report.{Report}
use Rattle.endless_run.specs.Packing.{refusal_word}
use Rattle.endless_run.proofs.refusal_word.Goals as goal

pub returns : goal.returns
unfolding refusal_word
returns c = ap (λ (x : Report). x.number * 4294967296 + x.part * 65536 + x.row) c.report_of-report.ensures
