use Rattle.live.proofs.CallLaws as law
use Rattle.live.proofs.Live.start.Goals as goal

pub returns-then-not-start_fits : goal.returns-then-not-start_fits
returns-then-not-start_fits c = law.start_refused c.args.self.now c.args.v c.args.tops.now c.start_fits.ensures c.if-not-start_fits.true

pub returns : goal.returns
returns c = law.start_done c.args.self.now c.args.v c.args.tops.now c.start_fits.ensures c.if-not-start_fits.false c.kept_tops-self.ensures
