-- What is known of a sheet whose sizes and kinds have been looked at. Assumes nothing.
use Rattle.std.specs.Prelude.{ℕ, ◌<◌, ◌≡◌, List, true, false}
use Rattle.rule.specs.Layout.{part_count, sizes_fit}
use Rattle.rule.specs.Kinds.{kind_unknown}

-- the kind bytes of the first n parts are all known
abbrev pub AllKnown : List ℕ → ℕ → Type 0
AllKnown sheet n = (i : ℕ) → i < n → kind_unknown sheet i ≡ false

-- the sizes fit, and the kind bytes of all parts are known
unfoldable pub KindsKnown : List ℕ → ℕ → Type 0
KindsKnown sheet n = (sizes_fit sheet ≡ true) × (n ≡ part_count sheet) × AllKnown sheet n
