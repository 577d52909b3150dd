-- `lanes::weeks::spaced_agrees` meets its contract. Assumes nothing.
use Prim.Native.Nat.{◌%◌}
use native.Mathlib.Nat.{mod-lt}
use lib.IntN.{sub_ℕ}
use Rattle.cltlb.specs.Week.{minute_of}
use Rattle.lanes.proofs.Windows.{share_agrees, lines_agree_by}
use Rattle.lanes.proofs.weeks.spaced_agrees.Goals as goal

pub returns : goal.returns
returns c =
    lines_agree_by c.args.a c.args.b c.args.known c.args.mark c.requires.2
    (share_agrees c.args.known c.requires.2 (minute_of (sub_ℕ c.args.a c.args.b) % c.args.known.apart) c.share_after-share.result c.args.mark (mod-lt (minute_of (sub_ℕ c.args.a c.args.b)) c.requires.2.some) c.share_after-share.ensures)
