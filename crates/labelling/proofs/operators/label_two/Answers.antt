use Rattle.cltlb.specs.declared.Binary.TheVariants as binary
use mathlib.Core.Path.{refl}
use mathlib.Core.Bool.{true, false}
use Rattle.labelling.proofs.BySweeps.{until_steps, release_steps, since_steps, trigger_steps}
use Rattle.labelling.proofs.Sweeping.{and_done, or_done, past_done, ahead_done}
use Rattle.labelling.proofs.operators.label_two.Goals as goal

pub returns-in-And : goal.returns-in-And
returns-in-And c = and_done _ _ c.requires.1 c.args.table.now _ _ c.place-own.ensures _ c.place-left.ensures _ c.place-right.ensures c.fill_joined.ensures c.in-And.is

pub returns-in-Or : goal.returns-in-Or
returns-in-Or c = or_done _ _ c.requires.1 c.args.table.now _ _ c.place-own.ensures _ c.place-left.ensures _ c.place-right.ensures c.fill_joined-in-Or.ensures c.in-Or.is

pub returns-in-Until : goal.returns-in-Until
returns-in-Until c = ahead_done _ _ c.requires.1 c.args.table.now _ _ c.place-own.ensures _ c.place-left.ensures _ c.place-right.ensures binary.Until false until_steps c.in-Until.is refl refl c.fill_ahead.ensures

pub returns-in-Release : goal.returns-in-Release
returns-in-Release c = ahead_done _ _ c.requires.1 c.args.table.now _ _ c.place-own.ensures _ c.place-left.ensures _ c.place-right.ensures binary.Release true release_steps c.in-Release.is refl refl c.fill_ahead-in-Release.ensures

pub returns-in-Since : goal.returns-in-Since
returns-in-Since c = past_done _ _ c.requires.1 c.args.table.now _ _ c.place-own.ensures _ c.place-left.ensures _ c.place-right.ensures binary.Since false since_steps c.in-Since.is refl c.fill_on.ensures

pub returns-in-Trigger : goal.returns-in-Trigger
returns-in-Trigger c = past_done _ _ c.requires.1 c.args.table.now _ _ c.place-own.ensures _ c.place-left.ensures _ c.place-right.ensures binary.Trigger true trigger_steps c.in-Trigger.is refl c.fill_on-in-Trigger.ensures
