-- What comes of a run of tests: none of them refuses, or the first one that does. Assumes nothing.
use Rattle.std.specs.Prelude.{Result, Ok, ⊤}
use Rattle.refusal.specs.declared.Refusal.{Refusal}

abbrev pub Outcome : Type 0
Outcome = Result ⊤ Refusal

-- none refuses
abbrev pub unrefused : Outcome
unrefused = Ok tt
