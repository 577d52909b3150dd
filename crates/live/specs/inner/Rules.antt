-- A rule sheet as an add reads it: its counts where it can be watched. Assumes nothing.
use Rattle.std.specs.Prelude.{Result, ℕ, List}
use Rattle.refusal.specs.declared.Refusal.{Refusal}
use Rattle.refusal.specs.declared.Refusal.TheVariants.{Unwatchable}
use Rattle.refusal.specs.First.{◌or_else◌, unless}
use Rattle.rule.specs.declared.sizes.Sizes.{Sizes}
use Rattle.rule.specs.inner.Read.{counts_unless}
use Rattle.rule.specs.Sheet.{sheet_outcome}
use Rattle.live.specs.State.{watchable}

unfoldable pub rule_read : ℕ → List ℕ → Result Sizes Refusal
rule_read v sheet = counts_unless (sheet_outcome sheet or_else unless (watchable v sheet) Unwatchable) sheet
