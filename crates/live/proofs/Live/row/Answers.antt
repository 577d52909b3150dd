use Rattle.live.proofs.CallLaws as law
use Rattle.live.proofs.Live.row.Goals as goal

pub returns-then-channels-gt8 : goal.returns-then-channels-gt8
returns-then-channels-gt8 c = law.row_channels c.args.self.now c.args.bytes.now c.if-channels-gt8.true

pub returns-then-bytes-channels : goal.returns-then-bytes-channels
returns-then-bytes-channels c = law.row_length c.args.self.now c.args.bytes.now c.if-channels-gt8.false c.if-bytes-channels.true

pub returns : goal.returns
returns c = law.row_done c.args.self.now c.args.bytes.now c.if-channels-gt8.false c.if-bytes-channels.false c.keep_row.ensures c.watch_row.ensures
