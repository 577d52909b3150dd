-- Lines as the code keeps them, lifted so that no number is below 0. Assumes nothing.
use Rattle.std.specs.Prelude.{◌<◌}
use Rattle.fields.specs.inner.Biased.{unbiased}
use Rattle.plan.specs.inner.Lifted.{lowered, value_end}
use Rattle.verdict.specs.Lines.{Line}
use Rattle.verdict.specs.declared.lines.LiftedLine.{LiftedLine}

abbrev pub line_of : LiftedLine → Line
line_of l = record { at = lowered l.at; step = unbiased l.step }

-- its first number is one that a lookup gives
abbrev pub Low : LiftedLine → Type 0
Low l = l.at < value_end
