-- The invariants of `rule::check_kinds`.
use mathlib.Core.Path.{◌≡◌}
use Rattle.refusal.specs.First.{at_lowest}
use Rattle.refusal.specs.declared.Refusal.TheVariants.{Kind}
use Rattle.refusal.proofs.Search.{search_from}
use Rattle.rule.specs.Kinds.{kind_unknown}
use Rattle.rule.proofs.check_kinds.Given as goal

abbrev pub invariant-loop-part : goal.invariant-loop-part
invariant-loop-part l = at_lowest (kind_unknown l.sheet) l.parts Kind ≡ search_from (kind_unknown l.sheet) l.parts Kind l.part
