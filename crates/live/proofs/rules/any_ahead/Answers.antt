use Prim.Native.Nat.{ℕ}
use mathlib.Core.Path.{sym, ◌∙◌}
use Rattle.rule.specs.Take.{views_of}
use Rattle.past.specs.Ahead.{view_ahead}
use Rattle.live.proofs.RuleLaws as law
use Rattle.live.proofs.rules.any_ahead.Goals as goal

-- src/rules.rt:31:5
pub loop-i-init : goal.loop-i-init
loop-i-init c = law.any_none _

-- src/rules.rt:33:13
pub returns-then-part_ahead : goal.returns-then-part_ahead
returns-then-part_ahead c = law.any_found (λ (j : ℕ). view_ahead (views_of c.args.sheet.now j)) _ _ c.loop-i-test.true (sym c.part_ahead.ensures ∙ c.if-part_ahead.true)

-- src/rules.rt:31:5
pub loop-i-preserved : goal.loop-i-preserved
loop-i-preserved c = law.any_more (λ (j : ℕ). view_ahead (views_of c.args.sheet.now j)) _ c.loop-i.invariant (sym c.part_ahead.ensures ∙ c.if-part_ahead.false)
