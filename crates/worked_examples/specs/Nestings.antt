-- How deep Y, Z, S and T are nested in the parts of the examples' sheets, and how many passes settling then takes at most where nothing
-- drifts. Assumes nothing.
use Rattle.std.specs.Prelude.{ℕ, zero, suc, ◌+◌, ◌≡◌, List, [], ◌∷◌}
use Rattle.cltlb.specs.Nesting.{nesting, deepest}
use Rattle.rule.specs.Layout.{part_count}
use Rattle.rule.specs.Take.{views_of}
use Rattle.settling.specs.Promise.{most_passes}
use Rattle.worked_examples.specs.Table.{rule_e1}
use Rattle.worked_examples.specs.MoreSheets.{rule_kinds, rule_nested}

-- of the n parts of a sheet from part k on
unfoldable pub nestings_from : List ℕ → ℕ → ℕ → List ℕ
nestings_from sheet k zero = []
nestings_from sheet k (suc n) = nesting (views_of sheet) k ∷ nestings_from sheet (suc k) n

-- a sheet with how deep they are nested in each part, and at the deepest
pub data NestRow : Type 0 where
  nests : (sheet parts : List ℕ) (deep : ℕ) → NestRow

unfoldable pub NestsAs : NestRow → Type 0
NestsAs (nests sheet parts deep) =
    (nestings_from sheet 0 (part_count sheet) ≡ parts) × (deepest (views_of sheet) (part_count sheet) ≡ deep) × (most_passes sheet ≡ 4 + deep)

-- a comparison alone; every kind once, of which Y, Z, S and T are one deep; and these four, each over the one before
unfoldable pub nested : List NestRow
nested =
    nests rule_e1 (0 ∷ []) 0
    ∷ nests rule_kinds (0 ∷ 0 ∷ 0 ∷ 0 ∷ 0 ∷ 0 ∷ 0 ∷ 0 ∷ 1 ∷ 1 ∷ 1 ∷ 1 ∷ 0 ∷ 0 ∷ []) 1
    ∷ nests rule_nested (0 ∷ 1 ∷ 2 ∷ 3 ∷ 4 ∷ 4 ∷ []) 4
    ∷ []
