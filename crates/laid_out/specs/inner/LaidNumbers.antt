-- The numbers of the two arrays of a plan with n passes of its cycle laid out. Assumes nothing.
use Rattle.std.specs.Prelude.{ℕ, List, ℤ}
use Rattle.laid_out.specs.LaidOut.{laid_reading, laid_drift}
use Rattle.laid_out.specs.declared.numbers.Array.{Array}
use Rattle.laid_out.specs.declared.numbers.Array.TheVariants.{Readings, Drifts}

-- the number of an array on a row that is stored and a channel
abbrev pub laid_number : List ℕ → ℕ → Array → ℕ → ℕ → ℤ
laid_number plan n Readings = laid_reading plan
laid_number plan n Drifts = laid_drift plan n
