-- The invariants of `rule::check_operands`.
use mathlib.Core.Path.{◌≡◌}
use Rattle.refusal.specs.First.{at_lowest}
use Rattle.refusal.specs.declared.Refusal.TheVariants.{Operand}
use Rattle.refusal.proofs.Search.{search_from}
use Rattle.rule.specs.Sheet.{untakeable}
use Rattle.rule.proofs.check_operands.Given as goal

abbrev pub invariant-loop-n : goal.invariant-loop-n
invariant-loop-n l = at_lowest (untakeable l.sheet) l.parts Operand ≡ search_from (untakeable l.sheet) l.parts Operand l.n
