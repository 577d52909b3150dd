-- `labelling::witnesses::lowest_row` meets its contract. Assumes nothing.
use Rattle.std.proofs.Common.{ℕ, Bool, ◌≡◌, true, false, arith, rules, tests}
use Rattle.std.proofs.lemmas.Iterator.{first_from_Range, serves_from_Range}
use Rattle.plan.specs.inner.Sizes.{all_rows}
use Rattle.table.specs.Layout.{marked}
use Rattle.table.specs.inner.Tables.{flipped}
use Rattle.labelling.proofs.LowestRows.{row_found}
use Rattle.labelling.proofs.witnesses.lowest_row.Goals as goal

pub find-requires : goal.find-requires
find-requires c = record { can = tt; finite = tt; callable = serves_from_Range (λ x q k. search (rules, tests)) (λ x low high. search rules) }

pub returns : goal.returns
returns c =
    let args = c.args in
    let wanted : ℕ → Bool = λ row. flipped args.opposite (marked (all_rows args.table.now.sizes) args.table.now.bytes.now args.b row) in
    row_found wanted args.table.now.sizes.start args.table.now.sizes.cycle _
    (first_from_Range _ _ _ _ (λ row. wanted row ≡ true) (λ row. wanted row ≡ false) c.find.ensures.ran
    (λ x q k. grind (arith, tests))
    (λ x q k. (search rules, grind (arith, tests))))
