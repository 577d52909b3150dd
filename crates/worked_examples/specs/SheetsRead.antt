-- What the rule sheets of the examples read as: V, and the parts. Assumes nothing.
use Rattle.std.specs.Prelude.{ℕ, zero, suc, ◌≡◌, List, [], ◌∷◌, pos, neg_ℤ}
use Rattle.cltlb.specs.declared.Term.{Term}
use Rattle.cltlb.specs.declared.Term.TheVariants.{Constant, Reading}
use Rattle.cltlb.specs.declared.Part.{Part}
use Rattle.cltlb.specs.declared.Part.TheVariants.{Less, Equal, Not, And, Or, Next, Until, Release, Yesterday, WeakYesterday, Since, Trigger, Window, Pinned}
use Rattle.rule.specs.Layout.{part_count, channel_count}
use Rattle.rule.specs.Take.{parts_of}
use Rattle.worked_examples.specs.Table.{rule_e1, rule_e2, rule_e3, rule_e4, rule_e5, rule_e6_4096, rule_e6_4093, rule_e7, rule_e8, rule_e9_10, rule_e9_9, rule_e9_0, rule_e10}
use Rattle.worked_examples.specs.MoreSheets.{rule_kinds, rule_release, rule_past, rule_weak, rule_since, rule_trigger, rule_limit, rule_met, rule_reach, rule_eight_channels, rule_windows, rule_hours, rule_first_day, rule_day_before, rule_back, rule_pinned, rule_pinned_past, rule_pinned_back, rule_under, rule_top_windows, rule_course}

-- the n parts of a sheet from part k on
unfoldable pub parts_from : List ℕ → ℕ → ℕ → List Part
parts_from sheet k zero = []
parts_from sheet k (suc n) = parts_of sheet k ∷ parts_from sheet (suc k) n

-- all parts of a sheet, in their order
unfoldable pub all_parts : List ℕ → List Part
all_parts sheet = parts_from sheet 0 (part_count sheet)

-- a sheet with its V and its parts
pub data SheetRow : Type 0 where
  reads : (sheet : List ℕ) (channels : ℕ) (parts : List Part) → SheetRow

unfoldable pub ReadsAs : SheetRow → Type 0
ReadsAs (reads sheet channels parts) = (channel_count sheet ≡ channels) × (all_parts sheet ≡ parts)

-- the readings of channels 0 and 1 at the present position
abbrev pub x : Term
x = Reading 0 (pos 0)

abbrev pub y : Term
y = Reading 1 (pos 0)

-- part k has kind k + 1
abbrev pub every_kind : List Part
every_kind =
    Less x y
    ∷ Equal (Reading 2 (neg_ℤ (pos 1))) (Constant (neg_ℤ (pos 3)))
    ∷ Not 0
    ∷ And 0 1
    ∷ Or 0 1
    ∷ Next 0
    ∷ Until 4 2
    ∷ Release 4 2
    ∷ Yesterday 1
    ∷ WeakYesterday 1
    ∷ Since 0 1
    ∷ Trigger 0 1
    ∷ Window 2 (neg_ℤ (pos 1)) 10078 10077
    ∷ Pinned 2 (neg_ℤ (pos 1))
    ∷ []

-- x < 10, -1 < x, 9 < x, x = 9, x = x, 10 = 10, x is pinned
abbrev pub under_top : List Part
under_top =
    Less x (Constant (pos 10))
    ∷ Less (Constant (neg_ℤ (pos 1))) x
    ∷ Less (Constant (pos 9)) x
    ∷ Equal x (Constant (pos 9))
    ∷ Equal x x
    ∷ Equal (Constant (pos 10)) (Constant (pos 10))
    ∷ Pinned 0 (pos 0)
    ∷ []

-- the rule of the course
abbrev pub course : List Part
course =
    Pinned 0 (pos 0)
    ∷ Not 0
    ∷ Equal y (Constant (pos 1))
    ∷ Not 2
    ∷ Or 3 1
    ∷ Release 1 4
    ∷ Less (Constant (pos 1)) (Constant (pos 0))
    ∷ Release 6 5
    ∷ []

-- E1 to E10, then the sheets of more examples.
unfoldable pub sheets : List SheetRow
sheets =
    reads rule_e1 1 (Less x (Constant (pos 25)) ∷ [])
    ∷ reads rule_e2 1 (Less x (Constant (pos 25)) ∷ Yesterday 0 ∷ [])
    ∷ reads rule_e3 1 (Less x (Constant (pos 25)) ∷ Next 0 ∷ [])
    ∷ reads rule_e4 1 (Less x (Constant (pos 25)) ∷ Not 0 ∷ Until 0 1 ∷ [])
    ∷ reads rule_e5 1 (Less x (Constant (pos 4095)) ∷ [])
    ∷ reads rule_e6_4096 1 (Equal x (Constant (pos 4096)) ∷ [])
    ∷ reads rule_e6_4093 1 (Equal x (Constant (pos 4093)) ∷ [])
    ∷ reads rule_e7 1 (Less x (Reading 0 (pos 1)) ∷ [])
    ∷ reads rule_e8 1 (Less (Reading 0 (neg_ℤ (pos 1))) x ∷ [])
    ∷ reads rule_e9_10 1 (Equal x (Constant (pos 10)) ∷ [])
    ∷ reads rule_e9_9 1 (Equal x (Constant (pos 9)) ∷ [])
    ∷ reads rule_e9_0 1 (Equal x (Constant (pos 0)) ∷ [])
    ∷ reads rule_e10 1 (Less x (Constant (pos 9)) ∷ Less x (Constant (pos 3)) ∷ Until 0 1 ∷ [])
    ∷ reads rule_kinds 3 every_kind
    ∷ reads rule_release 1 (Less x (Constant (pos 9)) ∷ Less x (Constant (pos 3)) ∷ Release 1 0 ∷ [])
    ∷ reads rule_past 3 (Less x y ∷ Yesterday 0 ∷ [])
    ∷ reads rule_weak 1 (Less x (Constant (pos 25)) ∷ WeakYesterday 0 ∷ [])
    ∷ reads rule_since 1 (Less x (Constant (pos 25)) ∷ Equal x (Constant (pos 10)) ∷ Since 0 1 ∷ [])
    ∷ reads rule_trigger 1 (Less (Constant (pos 25)) x ∷ Less (Constant (pos 10)) x ∷ Trigger 0 1 ∷ [])
    ∷ reads rule_limit 3 (Less x y ∷ Less x (Constant (pos 301)) ∷ [])
    ∷ reads rule_met 3 (Equal x (Constant (neg_ℤ (pos 70512))) ∷ [])
    ∷ reads rule_reach 1 (Less (Reading 0 (neg_ℤ (pos 4))) (Reading 0 (pos 4)) ∷ [])
    ∷ reads rule_eight_channels 8 (Less (Reading 7 (pos 0)) (Constant (pos 25)) ∷ [])
    ∷ reads rule_windows 1 (Window 0 (pos 0) 10079 0 ∷ Window 0 (pos 0) 0 10079 ∷ Window 0 (pos 0) 60 90 ∷ [])
    ∷ reads rule_hours 1 (Window 0 (pos 0) 540 9181 ∷ Window 0 (pos 0) 10000 60 ∷ [])
    ∷ reads rule_first_day 1 (Window 0 (pos 0) 540 1020 ∷ [])
    ∷ reads rule_day_before 1 (Window 0 (neg_ℤ (pos 1)) 540 9181 ∷ [])
    ∷ reads rule_back 1 (Window 0 (neg_ℤ (pos 3)) 0 10079 ∷ Window 0 (neg_ℤ (pos 4)) 0 10079 ∷ [])
    ∷ reads rule_pinned 1 (Pinned 0 (pos 0) ∷ [])
    ∷ reads rule_pinned_past 1 (Pinned 0 (pos 0) ∷ Yesterday 0 ∷ [])
    ∷ reads rule_pinned_back 1 (Pinned 0 (neg_ℤ (pos 1)) ∷ Pinned 0 (neg_ℤ (pos 2)) ∷ [])
    ∷ reads rule_under 1 under_top
    ∷ reads rule_top_windows 1 (Window 0 (pos 0) 540 1020 ∷ Window 0 (pos 0) 9000 9500 ∷ [])
    ∷ reads rule_course 2 course
    ∷ []
