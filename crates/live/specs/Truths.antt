-- The truths of a rule's parts on the newest row, a byte for each, from the newest rows that are kept and the truths on the row before.
-- They are read off the bytes of the rule, whatever those are; on a sheet that clears refusals 1 to 3 they are the bytes of its parts.
-- Assumes nothing.
use Rattle.std.specs.Prelude.{ℕ, zero, suc, ◌+◌, ◌*◌, ◌-◌, ◌%◌, cond, List, min, max, leb, ltb, eqb, get_or, set, replicate}
use Rattle.std.specs.Int.Signed.{lt_z}
use Rattle.cltlb.specs.Week.{in_window}
use Rattle.fields.specs.LittleEndian.{number_at}
use Rattle.rule.specs.Layout.{kind_byte, operand_place}
use Rattle.table.specs.Bytes.{byte_of}
use Rattle.verdict.specs.Lines.{eq_z}
use Rattle.verdict.specs.Comparisons.{of_number, of_numbers, seen_pinned}
use Rattle.live.specs.Kept.{kept, unseen, seen_of}

-- not, of a byte that is 0 or 1; and, or are min, max
unfoldable pub negated : ℕ → ℕ
negated x = cond (eqb x 1) 0 1

-- on the first row since the add what an operator begins with, later what is known of the row before
unfoldable pub earlier : ℕ → ℕ → ℕ → ℕ
earlier age begin before = cond (eqb age 1) begin before

-- the byte of the part that two bytes of a rule from `at` on name
unfoldable pub named : List ℕ → List ℕ → ℕ → ℕ
named rule truths at = get_or truths (number_at 2 rule at % 64) 0

-- the rows that are kept, and how many of them came since the rule was added
module _ (readings : List ℕ) (age : ℕ) where
  -- Shift code 0 to 4 means a shift of -4 to 0: the reading of a channel stands at 8 × code + channel. A row from before the add is not
  -- seen, though it may be kept.
  unfoldable pub reading_at : ℕ → ℕ
  reading_at at = cond (ltb at (40 - 8 * age)) unseen (cond (leb 40 at) unseen (get_or readings at 0))

  -- the term that six bytes of the rule from `at` on stand for: form 0 is a constant
  unfoldable pub term_value : List ℕ → ℕ → ℕ
  term_value rule at =
      cond (eqb (get_or rule at 0) 0)
      (kept (number_at 4 rule (at + 2)))
      (reading_at (8 * get_or rule (at + 1) 0 + number_at 4 rule (at + 2)))

  module _ (rule before : List ℕ) where
    -- part i of a kind, with its operand from `at` on, from the truths of lower parts on this row; X, U and R are not watched
    unfoldable pub kind_truth : ℕ → ℕ → List ℕ → ℕ → ℕ
    kind_truth kind at this i =
        cond (eqb kind 1) (byte_of (of_numbers lt_z (seen_of (term_value rule at)) (seen_of (term_value rule (at + 6)))))
        (cond (eqb kind 2) (byte_of (of_numbers eq_z (seen_of (term_value rule at)) (seen_of (term_value rule (at + 6)))))
        (cond (eqb kind 3) (negated (named rule this at))
        (cond (eqb kind 4) (min (named rule this at) (named rule this (at + 2)))
        (cond (eqb kind 5) (max (named rule this at) (named rule this (at + 2)))
        (cond (eqb kind 9) (earlier age 0 (named rule before at))
        (cond (eqb kind 10) (earlier age 1 (named rule before at))
        (cond (eqb kind 11) (max (named rule this (at + 2)) (min (named rule this at) (earlier age 0 (get_or before i 0))))
        (cond (eqb kind 12) (min (named rule this (at + 2)) (max (named rule this at) (earlier age 1 (get_or before i 0))))
        (cond (eqb kind 13) (byte_of (of_number (seen_of (term_value rule at)) (in_window (number_at 2 rule (at + 6)) (number_at 2 rule (at + 8)))))
        (cond (eqb kind 14) (byte_of (seen_pinned (seen_of (term_value rule at)))) 0))))))))))

    -- the truths of the first i of n parts, made one after another, and 0 for the rest of 64
    unfoldable pub truths_to : ℕ → ℕ → List ℕ
    truths_to n zero = replicate 64 0
    truths_to n (suc i) = set (truths_to n i) i (kind_truth (kind_byte rule i) (operand_place n i) (truths_to n i) i)
