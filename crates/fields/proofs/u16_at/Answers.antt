use native.Mathlib.Omega.{arith}
use Rattle.fields.proofs.Widths.{number2}
use Rattle.fields.proofs.u16_at.Goals as goal

pub returns : goal.returns
returns c = omega (arith, number2 c.args.s.now c.args.at, c.from_le_bytes.ensures)
