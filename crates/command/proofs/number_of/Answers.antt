use Rattle.std.proofs.Common.{arith, rules, ℕ, ◌+◌, drop, sym, ap, ◌∙◌}
use borrow.Author.Tests.{eq-eqb}
use mathlib.Core.Bool.{false≢true}
use Rattle.command.specs.Argument.{with_digits}
use Rattle.command.proofs.Digits as law
use Rattle.command.proofs.number_of.Goals as goal

pub returns-then-is_empty : goal.returns-then-is_empty
returns-then-is_empty c = law.no_text c.args.text.now (search rules)

pub loop-digit-init : goal.loop-digit-init
loop-digit-init c = (omega arith, law.some_text c.args.text.now (λ e. absurd (false≢true (sym c.if-is_empty.false ∙ c.is_empty.ensures ∙ eq-eqb _ _ e))))

pub returns-then-not-is_ascii_digit : goal.returns-then-not-is_ascii_digit
returns-then-not-is_ascii_digit c =
    c.loop-digit.invariant.1 ∙ law.other_byte c.args.text.now _ _ c.loop-digit-test.true (sym c.is_ascii_digit.ensures.value ∙ c.if-not-is_ascii_digit.true)

pub loop-digit-preserved : goal.loop-digit-preserved
loop-digit-preserved c = (
  c.with_digit-n.ensures.1,
  c.loop-digit.invariant.1
      ∙ law.next_digit c.args.text.now _ _ c.loop-digit-test.true (sym c.is_ascii_digit.ensures.value ∙ c.if-not-is_ascii_digit.false)
      ∙ ap (λ (x : ℕ). with_digits x (drop (c.loop-digit.digit-index + 1) c.args.text.now)) (sym c.with_digit-n.ensures.0),
)

pub returns : goal.returns
returns c = c.loop-digit.invariant.1 ∙ law.last_digit c.args.text.now _ _ c.loop-digit-test.false
