use native.Mathlib.Omega.{arith}
use Rattle.fields.proofs.Widths.{number4}
use Rattle.fields.proofs.u32_at.Goals as goal

pub returns : goal.returns
returns c = omega (arith, number4 c.args.s.now c.args.at, c.from_le_bytes.ensures)
