-- Terms and operands as code has them: constants are signed numbers of four bytes. Assumes nothing.
use Rattle.fields.specs.inner.Ranges.{SignedFits}
use Rattle.cltlb.specs.declared.Term.{Term}
use Rattle.cltlb.specs.declared.Term.TheVariants.{Constant, Reading}
use Rattle.rule.specs.declared.operands.Operand.{Operand}
use Rattle.rule.specs.declared.operands.Operand.TheVariants.{Terms, One, Two, Window, Pinned}

unfoldable pub WordTerm : Term → Type 0
WordTerm (Constant z) = SignedFits 4 z
WordTerm (Reading channel shift) = Unit {0}

unfoldable pub WordOperand : Operand → Type 0
WordOperand (Terms x y) = WordTerm x × WordTerm y
WordOperand (One a) = Unit {0}
WordOperand (Two a b) = Unit {0}
WordOperand (Window channel shift from to) = Unit {0}
WordOperand (Pinned channel shift) = Unit {0}
