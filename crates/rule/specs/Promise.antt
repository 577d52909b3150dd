-- What take and put promise, on all inputs: their answers, the bytes that put leaves, and that each undoes the other.
-- Assumes nothing.
use Rattle.std.specs.Prelude.{Result, Ok, Err, ℕ, ◌≡◌, List}
use Rattle.refusal.specs.declared.Refusal.{Refusal}
use Rattle.refusal.specs.Outcome.{Outcome, unrefused}
use Rattle.cltlb.specs.declared.Part.{Part}
use Rattle.rule.specs.Take.{take_of}
use Rattle.rule.specs.Put.{put_outcome, put_bytes}

-- take, of part n
pub record TakePromise (sheet : List ℕ) (n : ℕ) (answer : Result Part Refusal) : Type 0 where
  -- the part, or the first refusal that applies
  pub is_take : answer ≡ take_of sheet n
  -- A part taken off can be put back in its place, unrefused, and leaves the same bytes.
  pub put_back : (part : Part) → answer ≡ Ok part → (put_outcome sheet n part ≡ unrefused) × (put_bytes sheet n part ≡ sheet)

-- put, of a part at number n; `after` are the sheet's bytes at exit
pub record PutPromise (sheet : List ℕ) (n : ℕ) (part : Part) (answer : Outcome) (after : List ℕ) : Type 0 where
  -- the first refusal that applies, or none
  pub is_put : answer ≡ put_outcome sheet n part
  -- the kind byte and the operand's bytes are written, every other byte is as it was
  pub bytes : after ≡ put_bytes sheet n part
  -- A put that is refused changes no byte.
  pub unchanged : (r : Refusal) → answer ≡ Err r → after ≡ sheet
  -- A part put unrefused is taken off as the same part.
  pub taken : answer ≡ unrefused → take_of after n ≡ Ok part
