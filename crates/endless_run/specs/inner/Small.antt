-- Answers that can be packed: two bytes hold the part and the row of a refusal. Assumes nothing.
use Rattle.std.specs.Prelude.{Result, Err, ◌<◌, ◌≡◌}
use Rattle.refusal.specs.Report.{report_of}
use Rattle.refusal.specs.declared.Refusal.{Refusal}

abbrev pub SmallRefusal : {A : Type 0} → Result A Refusal → Type 0
SmallRefusal {A} answer = (r : Refusal) → answer ≡ Err r → ((report_of r).part < 65536) × ((report_of r).row < 65536)
