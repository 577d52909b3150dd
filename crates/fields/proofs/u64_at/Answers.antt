use native.Mathlib.Omega.{arith}
use Rattle.fields.proofs.Widths.{number8}
use Rattle.fields.proofs.u64_at.Goals as goal

pub returns : goal.returns
returns c = omega (arith, number8 c.args.s.now c.args.at, c.from_le_bytes.ensures)
