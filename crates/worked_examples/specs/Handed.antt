-- The byte strings that a row of each table hands over or gets back. Assumes nothing.
use Rattle.std.specs.Prelude.{ℕ, List, [], ◌∷◌}
use Rattle.worked_examples.specs.Questions.{Question}
use Rattle.worked_examples.specs.Questions as Q
use Rattle.worked_examples.specs.Calls.{Call, checks, makes, settles, judges}

unfoldable pub question_bytes : Question → List (List ℕ)
question_bytes (Q.checks rule plan marks answer) = rule ∷ plan ∷ marks ∷ []
question_bytes (Q.judges rule plan part row answer) = rule ∷ plan ∷ []
question_bytes (Q.meets rule plan marks part) = rule ∷ plan ∷ marks ∷ []

unfoldable pub call_bytes : Call → List (List ℕ)
call_bytes (checks rule plan marks word) = rule ∷ plan ∷ marks ∷ []
call_bytes (makes rule plan before after word) = rule ∷ plan ∷ before ∷ after ∷ []
call_bytes (settles rule plan laid scratch laid' scratch' word) = rule ∷ plan ∷ laid ∷ scratch ∷ laid' ∷ scratch' ∷ []
call_bytes (judges rule plan part row word) = rule ∷ plan ∷ []
