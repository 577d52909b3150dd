-- `laid_out::writing::put_tops` meets its contract. Assumes nothing.
use Rattle.laid_out.proofs.Fronts.{put_none, put_more, put_all}
use Rattle.laid_out.proofs.LaidBytes.{words, each_word, as_word, as_tops, top_pattern}
use native.Mathlib.Omega.{arith}
use Rattle.plan.specs.Layout.{top_of}
use Rattle.laid_out.proofs.writing.put_tops.Goals as goal

pub loop-channel-init : goal.loop-channel-init
loop-channel-init c = put_none c.args.t.now 4 c.args.plan.now.sizes.channels (words (λ k. top_of c.args.plan.now.bytes.now) 0)

pub loop-channel-preserved : goal.loop-channel-preserved
loop-channel-preserved c = put_more c.args.t.now 4 c.args.plan.now.sizes.channels (words (λ k. top_of c.args.plan.now.bytes.now) 0) (each_word (λ k. top_of c.args.plan.now.bytes.now) 0) (omega (arith, c.requires.0)) c.loop-channel-test.true (omega arith) c.loop-channel.invariant (as_word _ _ {z = top_of c.args.plan.now.bytes.now c.loop-channel.channel} (top_pattern _ c.top_of-top.ensures.1) c.top_of-top.ensures.0 c.put_u32.ensures)

pub returns : goal.returns
returns c = as_tops c.args.plan.now.sizes.channels (top_of c.args.plan.now.bytes.now) c.args.t.now (put_all c.args.t.now 4 c.args.plan.now.sizes.channels (words (λ k. top_of c.args.plan.now.bytes.now) 0) (each_word (λ k. top_of c.args.plan.now.bytes.now) 0) (omega (arith, c.requires.0)) c.loop-channel-test.false c.loop-channel.invariant)
