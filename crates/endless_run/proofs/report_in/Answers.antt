use Rattle.std.proofs.Common.{refl}
use Rattle.endless_run.specs.Packing.{unpacked}
use Rattle.endless_run.proofs.report_in.Goals as goal

pub returns : goal.returns
unfolding unpacked
returns c = refl
