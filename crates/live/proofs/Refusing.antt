-- A refused call leaves the state as it was, whatever state that is. Assumes nothing.
use Rattle.std.specs.Prelude.{Err}
use mathlib.Core.Path.{◌≡◌, ap}
use Rattle.refusal.specs.declared.Refusal.{Refusal}
use Rattle.refusal.specs.Outcome.{Outcome}
use Rattle.live.specs.declared.Live.{Live}
use Rattle.live.specs.State.{unless_refused}
use Rattle.live.specs.Calls.{Call, outcome_of, changed_state, state_after}

pub refused_unchanged : (call : Call) (s : Live) (r : Refusal) → outcome_of call s ≡ Err r → state_after call s ≡ s
unfolding state_after unless_refused
refused_unchanged call s r e = ap (λ (x : Outcome). unless_refused x (changed_state call s) s) e
