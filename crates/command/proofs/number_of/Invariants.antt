use Rattle.std.proofs.Common.{drop, ◌≡◌, ◌≤◌}
use Rattle.command.specs.Argument.{with_digits, argument_of}
use Rattle.command.proofs.number_of.Given as goal

abbrev pub invariant-loop-digit : goal.invariant-loop-digit
invariant-loop-digit l = (l.n ≤ 65536) × (argument_of l.text ≡ with_digits l.n (drop l.digit-index l.text))
