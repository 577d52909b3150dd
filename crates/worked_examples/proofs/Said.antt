-- What is said by an answer that the definitions give. Assumes nothing.
use Rattle.std.specs.Prelude.{Bool, Result, Ok, Err}
use Rattle.refusal.specs.declared.Refusal.{Refusal}
use Rattle.refusal.specs.Outcome.{unrefused}
use Prim.Native.Nat.{ℕ}
use native.Mathlib.Omega.{arith}
use mathlib.Core.Path.{◌≡◌, refl}
use mathlib.Core.List.{List, [], ◌∷◌}
use Rattle.rule.specs.Take.{views_of}
use Rattle.judge.specs.Judge.{judge_of}
use Rattle.judge.proofs.Promised.{judge_promise}
use Rattle.marks.specs.Parts.{equation_outcome}
use Rattle.acceptance.specs.Check.{mark_of, check_of}
use Rattle.acceptance.specs.Promise.{Cleared, CheckPromise}
use Rattle.acceptance.proofs.Promised.{check_promise}
use Rattle.worked_examples.specs.Questions.{Question, checks, judges, meets, CheckedMeans, JudgedMeans, Says}
use Rattle.worked_examples.specs.Rows.{All}

-- The answer is the one that the definition gives: the check's on bytes that clear refusals 1 to 8, and judge's a verdict; and no mark
-- breaks its equation.
unfoldable pub Right : Question → Type 0
Right (checks rule plan marks answer) = Cleared rule plan marks × (answer ≡ check_of rule plan marks)
Right (judges rule plan part row (Ok v)) = Ok v ≡ judge_of rule plan part row
Right (judges rule plan part row (Err r)) = ⊥
Right (meets rule plan marks part) = equation_outcome plan (mark_of rule plan marks) (views_of rule part) part ≡ unrefused

checked_means : (rule plan marks : List ℕ) (answer : Result Bool Refusal) → Cleared rule plan marks → CheckPromise rule plan marks answer → CheckedMeans rule plan marks answer
unfolding CheckedMeans
checked_means rule plan marks (Ok v) c p = ((p.accepts c).0 (v, refl), p.verdict v refl)
checked_means rule plan marks (Err r) c p = λ right.
    let accepted = (p.accepts c).1 right in
    let e = accepted.1 in
    absurd (let z : ◌≡◌ {A = ℕ} 0 1 = cc in omega arith)

said : (q : Question) → Right q → Says q
unfolding Right Says JudgedMeans
said (checks rule plan marks answer) (c, e) =
    let p = check_promise rule plan marks e in
    record { promise = p; cleared = c; meaning = checked_means rule plan marks answer c p }
said (judges rule plan part row (Ok v)) e =
    let p = judge_promise rule plan part row e in
    record { promise = p; meaning = p.meaning v refl }
said (judges rule plan part row (Err r)) e = absurd e
said (meets rule plan marks part) e = e

pub all_right : (questions : List Question) → All Right questions → All Says questions
unfolding All
all_right [] u = u
all_right (q ∷ qs) (r, rs) = (said q r, all_right qs rs)
