-- `rule::operands::put_ends` meets its contract. Assumes nothing.
use native.Mathlib.Omega.{arith}
use lib.ListN.{length-take, length-drop}
use Rattle.cltlb.proofs.Fits.{ends_fit}
use Rattle.rule.proofs.OperandsWritten as law
use Rattle.rule.proofs.operands.put_ends.Goals as goal

pub put_u16-requires : goal.put_u16-requires
put_u16-requires c = let f = ends_fit _ _ c.requires.1 in (omega (arith, c.requires.0), omega (arith, f.from_fits, f.to_fits))

pub put_u16-requires-2 : goal.put_u16-requires-2
put_u16-requires-2 c = let f = ends_fit _ _ c.requires.1 in (simp (length-take, length-drop) (omega (arith, c.requires.0, c.put_u16.auto.t)), omega (arith, f.from_fits, f.to_fits))

pub returns : goal.returns
returns c = law.zeros_behind c.args.t.now c.args.from c.args.to c.requires.0 _ c.put_u16-3.new.t (law.to_behind c.args.t.now c.args.from c.args.to c.requires.0 c.put_u16.new.t c.put_u16-2.new.t c.put_u16.ensures c.put_u16-2.ensures) c.put_u16-3.ensures
