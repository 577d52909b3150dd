-- From what is computed of a whole table to a statement about every row. Assumes nothing.
use mathlib.Core.Path.{◌≡◌}
use mathlib.Core.Bool.{Bool, true, ◌&&◌, and-eq-true_iff}
use mathlib.Core.List.{List, [], ◌∷◌, map}
use Rattle.worked_examples.specs.Rows.{All}

-- two functions give the same list, and where they give the same the statement holds
pub all_same : {A B : Type 0} (f g : A → B) (P : A → Type 0) → ((row : A) → f row ≡ g row → P row) → (rows : List A) → map f rows ≡ map g rows → All P rows
unfolding All
all_same f g P law [] e = tt
all_same f g P law (row ∷ rows) e = (law row cc, all_same f g P law rows cc)

-- the same of rows of each of which another statement is known
pub all_same_of : {A B : Type 0} (f g : A → B) (Q P : A → Type 0) → ((row : A) → Q row → f row ≡ g row → P row) → (rows : List A) → All Q rows → map f rows ≡ map g rows → All P rows
unfolding All
all_same_of f g Q P law [] known e = tt
all_same_of f g Q P law (row ∷ rows) (q, known) e = (law row q cc, all_same_of f g Q P law rows known cc)

-- a test is true of every row
unfoldable pub all_pass : {A : Type 0} → (A → Bool) → List A → Bool
all_pass test [] = true
all_pass test (row ∷ rows) = test row && all_pass test rows

pub all_pass_lem : {A : Type 0} (test : A → Bool) (P : A → Type 0) → ((row : A) → test row ≡ true → P row) → (rows : List A) → all_pass test rows ≡ true → All P rows
unfolding All all_pass
all_pass_lem test P law [] e = tt
all_pass_lem test P law (row ∷ rows) e =
    let both = (and-eq-true_iff (test row) (all_pass test rows)).0 e in
    (law row both.0, all_pass_lem test P law rows both.1)
