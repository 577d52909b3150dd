use Rattle.live.proofs.CallLaws.{held_by, held_within}
use Rattle.live.proofs.is_held.Goals as goal

-- src/lib.rt:63:1
pub returns : goal.returns
returns c = (λ w e. held_by w _ e, held_within _)
