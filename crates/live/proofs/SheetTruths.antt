-- On a sheet that clears refusals 1 to 3, the truths that are read off its bytes are made as its parts ask for. Assumes nothing.
use Rattle.std.specs.Prelude.{Option, Some, None}
use Rattle.refusal.specs.Outcome.{unrefused}
use Prim.Native.Nat.{ℕ, zero, suc, ◌+◌, ◌*◌, ◌%◌, ◌≤◌, ◌<◌, min, max}
use native.Mathlib.Decide.{dec_lt, ℕ_discrete}
use native.Mathlib.Omega.{arith}
use mathlib.Core.Path.{◌≡◌, refl, sym, ap, ap₂, ◌∙◌}
use mathlib.Core.Bool.{Bool, true, false, cond, not, ◌&&◌, ◌||◌}
use mathlib.Core.Logic.{by_cases}
use mathlib.Core.List.{List}
use lib.Dec.{eqb}
use lib.ListN.{length, get_or, take, drop, length-set}
use lib.Seq.{get_or-set_same, get_or-set_other}
use lib.IntN.{ℤ}
use lib.Signed.{lt_z}
use borrow.Author.Tests.{lt-ltb}
use Rattle.fields.specs.LittleEndian.{number_at}
use Rattle.fields.specs.TwosComplement.{signed_of, signed_at}
use Rattle.fields.specs.inner.Ranges.{Bytes}
use Rattle.fields.proofs.Bias.{biased_signed}
use Rattle.fields.proofs.Differences.{sub_pos, sub_neg}
use Rattle.fields.proofs.Widths.{number_lt, number_same}
use Rattle.cltlb.specs.Run.{Seen, number}
use Rattle.cltlb.specs.Week.{in_window}
use Rattle.cltlb.specs.Fits.{view_fits}
use Rattle.cltlb.specs.Views.{view_of}
use Rattle.cltlb.specs.declared.Term.{Term}
use Rattle.cltlb.specs.declared.Term.TheVariants.{Constant, Reading}
use Rattle.cltlb.specs.declared.Part.{Part}
use Rattle.cltlb.specs.declared.Part.TheVariants as part
use Rattle.cltlb.specs.declared.Unary.TheVariants as unary
use Rattle.cltlb.specs.declared.Binary.TheVariants as binary
use Rattle.cltlb.specs.declared.Operator.TheVariants as operator
use Rattle.cltlb.proofs.Fits.{operator_fits, one_lower, two_lower}
use Rattle.rule.specs.declared.operands.Operand.{Operand}
use Rattle.rule.specs.declared.operands.Operand.TheVariants.{Terms, One, Two, Window, Pinned}
use Rattle.rule.specs.declared.operands.Shape.TheVariants as S
use Rattle.rule.specs.Layout.{part_count, channel_count, kind_byte, kind_place, operand_place}
use Rattle.rule.specs.Terms.{shift_of, code_of, term_at}
use Rattle.rule.specs.Operands.{all_zero, both_terms, window_over, pinned_over, operand_at}
use Rattle.rule.specs.Kinds.{kind_of, operand_of, shape_of}
use Rattle.rule.specs.Take.{parts_of, views_of}
use Rattle.rule.specs.Sheet.{sheet_outcome}
use Rattle.rule.proofs.KindTables.{operand_back}
use Rattle.rule.proofs.SizesKnown.{sizes_known, operand_inside}
use Rattle.rule.proofs.TakenIsLaid.{passed, taken_laid}
use Rattle.rule.proofs.TermsRead.{by_form}
use Rattle.rule.proofs.Cleared.{cleared_sizes, cleared_taken, cleared_fits}
use Rattle.table.specs.Bytes.{byte_of}
use Rattle.verdict.specs.Lines.{eq_z}
use Rattle.verdict.specs.Comparisons.{of_number, of_numbers, seen_pinned}
use Rattle.past.proofs.Step.{value_now, atom_now, truth_from}
use Rattle.live.specs.Kept.{kept, seen_of}
use Rattle.live.specs.Truths.{negated, earlier, named, reading_at, term_value, kind_truth, truths_to}

-- what the kept readings show of a channel at a shift from the newest row
unfoldable pub seen_kept : List ℕ → ℕ → ℕ → ℤ → Seen
seen_kept readings age channel shift = seen_of (reading_at readings age (8 * code_of shift + channel))

-- ---- not, and, or of bytes

byte_not : (b : Bool) → negated (byte_of b) ≡ byte_of (not b)
unfolding negated
byte_not true = refl
byte_not false = refl

byte_and : (a b : Bool) → min (byte_of a) (byte_of b) ≡ byte_of (a && b)
byte_and true true = refl
byte_and true false = refl
byte_and false true = refl
byte_and false false = refl

byte_or : (a b : Bool) → max (byte_of a) (byte_of b) ≡ byte_of (a || b)
byte_or true true = refl
byte_or true false = refl
byte_or false true = refl
byte_or false false = refl

byte_cond : (t a b : Bool) → cond t (byte_of a) (byte_of b) ≡ byte_of (cond t a b)
byte_cond true a b = refl
byte_cond false a b = refl

byte_earlier : (age : ℕ) (a b : Bool) → earlier age (byte_of a) (byte_of b) ≡ byte_of (cond (eqb age 1) a b)
unfolding earlier
byte_earlier age a b = byte_cond (eqb age 1) a b

pub byte_back : (b : Bool) → eqb (byte_of b) 1 ≡ b
byte_back true = refl
byte_back false = refl

-- ---- terms

pub seen_kept_lem : (n : ℕ) → n < 4294967296 → seen_of (kept n) ≡ number (signed_of 4 n)
unfolding seen_of kept
seen_kept_lem n h =
    let l : (n + 2147483648) % 4294967296 < 4294967296 = omega arith in
    simp (lt-ltb ((n + 2147483648) % 4294967296) 4294967296 l) (ap number (biased_signed 4 2147483648 n refl h))

code_back : (c : ℕ) → code_of (shift_of c) ≡ c
unfolding code_of shift_of
code_back c =
    by_cases (dec_lt c 4)
    (λ l. ap code_of (sub_neg c 4 l) ∙ omega arith)
    (λ l. ap code_of (sub_pos c 4 (omega arith)) ∙ omega arith)

term_shown : (readings : List ℕ) (age : ℕ) (s : List ℕ) (at : ℕ) → Bytes s → (x : Term) → term_at s at ≡ Some x
    → seen_of (term_value readings age s at) ≡ value_now (seen_kept readings age) x
unfolding term_value value_now seen_kept signed_at
term_shown readings age s at bytes x =
    by_form s at (λ (t : Option Term). t ≡ Some x → seen_of (term_value readings age s at) ≡ value_now (seen_kept readings age) x)
    (λ f c e.
    let same : Constant (signed_of 4 (number_at 4 s (at + 2))) ≡ x = cc in
    simp f (seen_kept_lem (number_at 4 s (at + 2)) (number_lt 4 s (at + 2) bytes)) ∙ ap (value_now (seen_kept readings age)) same)
    (λ f e.
    let same : Reading (number_at 4 s (at + 2)) (shift_of (get_or s (at + 1) 0)) ≡ x = cc in
    simp f (ap (λ (c : ℕ). seen_of (reading_at readings age (8 * c + number_at 4 s (at + 2)))) (sym (code_back (get_or s (at + 1) 0)))) ∙ ap (value_now (seen_kept readings age)) same)
    (λ f e. absurd (let z : ◌≡◌ {A = ℕ} 0 1 = cc in omega arith))

-- ---- operands

both_read : (t u : Option Term) (x y : Term) → both_terms t u ≡ Some (Terms x y) → (t ≡ Some x) × (u ≡ Some y)
unfolding both_terms
both_read None u x y e = absurd (let z : ◌≡◌ {A = ℕ} 0 1 = cc in omega arith)
both_read (Some a) None x y e = absurd (let z : ◌≡◌ {A = ℕ} 0 1 = cc in omega arith)
both_read (Some a) (Some b) x y e = (cc, cc)

-- an operand that is there by a test
there : (b : Bool) (x : Option Operand) (o : Operand) → cond b x None ≡ Some o → x ≡ Some o
there true x o e = e
there false x o e = absurd (let z : ◌≡◌ {A = ℕ} 0 1 = cc in omega arith)

window_read : (t : Option Term) (a b c : ℕ) (d : ℤ) (from to : ℕ) → window_over t a b ≡ Some (Window c d from to)
    → (t ≡ Some (Reading c d)) × (a ≡ from) × (b ≡ to)
unfolding window_over
window_read None a b c d from to e = absurd (let z : ◌≡◌ {A = ℕ} 0 1 = cc in omega arith)
window_read (Some (Constant z)) a b c d from to e = absurd (let z : ◌≡◌ {A = ℕ} 0 1 = cc in omega arith)
window_read (Some (Reading u w)) a b c d from to e = (cc, cc, cc)

pinned_read : (t : Option Term) (c : ℕ) (d : ℤ) → pinned_over t ≡ Some (Pinned c d) → t ≡ Some (Reading c d)
unfolding pinned_over
pinned_read None c d e = absurd (let z : ◌≡◌ {A = ℕ} 0 1 = cc in omega arith)
pinned_read (Some (Constant z)) c d e = absurd (let z : ◌≡◌ {A = ℕ} 0 1 = cc in omega arith)
pinned_read (Some (Reading u w)) c d e = cc

one_read : (s : List ℕ) (at a : ℕ) → operand_at S.NamesOne s at ≡ Some (One a) → number_at 2 s at ≡ a
unfolding operand_at
one_read s at a e = let f = there (all_zero (take 10 (drop (at + 2) s))) (Some (One (number_at 2 s at))) (One a) e in cc

two_read : (s : List ℕ) (at a b : ℕ) → operand_at S.NamesTwo s at ≡ Some (Two a b) → (number_at 2 s at ≡ a) × (number_at 2 s (at + 2) ≡ b)
unfolding operand_at
two_read s at a b e =
    let f = there (all_zero (take 8 (drop (at + 4) s))) (Some (Two (number_at 2 s at) (number_at 2 s (at + 2)))) (Two a b) e in (cc, cc)

-- ---- one part

module _ (readings : List ℕ) (age : ℕ) (s before this : List ℕ) (at i n : ℕ) (bytes : Bytes s) (low : i < 64)
    (b m : ℕ → Bool)
    (held : (j : ℕ) → j < n → get_or before j 0 ≡ byte_of (b j)) (known : (j : ℕ) → j < i → get_or this j 0 ≡ byte_of (m j)) (here : i < n) where
  abbrev now_seen : ℕ → ℤ → Seen
  now_seen = seen_kept readings age

  this_named : (place a : ℕ) → number_at 2 s place ≡ a → a < i → named s this place ≡ byte_of (m a)
  unfolding named
  this_named place a e l =
      let k : a % 64 ≡ a = omega arith in
      ap (λ (j : ℕ). get_or this (j % 64) 0) e ∙ ap (λ (j : ℕ). get_or this j 0) k ∙ known a l

  before_named : (place a : ℕ) → number_at 2 s place ≡ a → a < i → named s before place ≡ byte_of (b a)
  unfolding named
  before_named place a e l =
      let k : a % 64 ≡ a = omega arith in
      ap (λ (j : ℕ). get_or before (j % 64) 0) e ∙ ap (λ (j : ℕ). get_or before j 0) k ∙ held a (omega arith)

  abbrev Made : Part → Type 0
  Made p = kind_truth readings age s before (kind_of p) at this i ≡ byte_of (truth_from now_seen (eqb age 1) b i (view_of p) m)

  part_made : (p : Part) (v : ℕ) → view_fits v i (view_of p) ≡ true → operand_at (shape_of (kind_of p)) s at ≡ Some (operand_of p) → Made p
  unfolding kind_truth truth_from atom_now shape_of operand_at value_now
  part_made (part.Less x y) v f e =
      let r = both_read (term_at s at) (term_at s (at + 6)) x y e in
      ap byte_of (ap₂ (of_numbers lt_z) (term_shown readings age s at bytes x r.0) (term_shown readings age s (at + 6) bytes y r.1))
  part_made (part.Equal x y) v f e =
      let r = both_read (term_at s at) (term_at s (at + 6)) x y e in
      ap byte_of (ap₂ (of_numbers eq_z) (term_shown readings age s at bytes x r.0) (term_shown readings age s (at + 6) bytes y r.1))
  part_made (part.Not a) v f e =
      ap negated (this_named at a (one_read s at a e) (one_lower i unary.Not a (operator_fits v i (operator.One unary.Not a) f))) ∙ byte_not (m a)
  part_made (part.And a c) v f e =
      let r = two_read s at a c e in
      let l = two_lower i binary.And a c (operator_fits v i (operator.Two binary.And a c) f) in
      ap₂ min (this_named at a r.0 l.0) (this_named (at + 2) c r.1 l.1) ∙ byte_and (m a) (m c)
  part_made (part.Or a c) v f e =
      let r = two_read s at a c e in
      let l = two_lower i binary.Or a c (operator_fits v i (operator.Two binary.Or a c) f) in
      ap₂ max (this_named at a r.0 l.0) (this_named (at + 2) c r.1 l.1) ∙ byte_or (m a) (m c)
  part_made (part.Next a) v f e = refl
  part_made (part.Until a c) v f e = refl
  part_made (part.Release a c) v f e = refl
  part_made (part.Yesterday a) v f e =
      ap (earlier age 0) (before_named at a (one_read s at a e) (one_lower i unary.Yesterday a (operator_fits v i (operator.One unary.Yesterday a) f)))
      ∙ byte_earlier age false (b a)
  part_made (part.WeakYesterday a) v f e =
      ap (earlier age 1) (before_named at a (one_read s at a e) (one_lower i unary.WeakYesterday a (operator_fits v i (operator.One unary.WeakYesterday a) f)))
      ∙ byte_earlier age true (b a)
  part_made (part.Since a c) v f e =
      let r = two_read s at a c e in
      let l = two_lower i binary.Since a c (operator_fits v i (operator.Two binary.Since a c) f) in
      ap₂ max (this_named (at + 2) c r.1 l.1)
      (ap₂ min (this_named at a r.0 l.0) (ap (earlier age 0) (held i here) ∙ byte_earlier age false (b i)) ∙ byte_and (m a) (cond (eqb age 1) false (b i)))
      ∙ byte_or (m c) (m a && cond (eqb age 1) false (b i))
  part_made (part.Trigger a c) v f e =
      let r = two_read s at a c e in
      let l = two_lower i binary.Trigger a c (operator_fits v i (operator.Two binary.Trigger a c) f) in
      ap₂ min (this_named (at + 2) c r.1 l.1)
      (ap₂ max (this_named at a r.0 l.0) (ap (earlier age 1) (held i here) ∙ byte_earlier age true (b i)) ∙ byte_or (m a) (cond (eqb age 1) true (b i)))
      ∙ byte_and (m c) (m a || cond (eqb age 1) true (b i))
  part_made (part.Window c d from to) v f e =
      let r = window_read (term_at s at) (number_at 2 s (at + 6)) (number_at 2 s (at + 8)) c d from to
      (there (all_zero (take 2 (drop (at + 10) s))) (window_over (term_at s at) (number_at 2 s (at + 6)) (number_at 2 s (at + 8))) (Window c d from to) e) in
      ap byte_of (ap₂ of_number (term_shown readings age s at bytes (Reading c d) r.0) (ap₂ in_window r.1 r.2))
  part_made (part.Pinned c d) v f e =
      let r = pinned_read (term_at s at) c d (there (all_zero (take 6 (drop (at + 6) s))) (pinned_over (term_at s at)) (Pinned c d) e) in
      ap (λ (x : Seen). byte_of (seen_pinned x)) (term_shown readings age s at bytes (Reading c d) r)

-- ---- the copy of a sheet

module _ (rule s : List ℕ) (at : ℕ) (same : (k : ℕ) → k < 12 → get_or rule (at + k) 0 ≡ get_or s (at + k) 0) where
  -- a field in the twelve bytes of an operand
  field_same : (w k : ℕ) → k + w ≤ 12 → number_at w rule (at + k) ≡ number_at w s (at + k)
  field_same w k h =
      number_same w rule s (at + k) (λ j l.
      let e : at + k + j ≡ at + (k + j) = omega arith in
      ap (λ (x : ℕ). get_or rule x 0) e ∙ same (k + j) (omega arith) ∙ ap (λ (x : ℕ). get_or s x 0) (sym e))

  first_same : number_at 2 rule at ≡ number_at 2 s at
  first_same = let e : at + 0 ≡ at = omega arith in ap (number_at 2 rule) (sym e) ∙ field_same 2 0 (omega arith) ∙ ap (number_at 2 s) e

  form_same : get_or rule at 0 ≡ get_or s at 0
  form_same = let e : at + 0 ≡ at = omega arith in ap (λ (x : ℕ). get_or rule x 0) (sym e) ∙ same 0 (omega arith) ∙ ap (λ (x : ℕ). get_or s x 0) e

  left_same : (readings : List ℕ) (age : ℕ) → term_value readings age rule at ≡ term_value readings age s at
  unfolding term_value
  left_same readings age = rw (form_same, same 1 (omega arith), field_same 4 2 (omega arith)) refl

  right_same : (readings : List ℕ) (age : ℕ) → term_value readings age rule (at + 6) ≡ term_value readings age s (at + 6)
  unfolding term_value
  right_same readings age =
      let e : at + 6 + 1 ≡ at + 7 = omega arith in
      let f : at + 6 + 2 ≡ at + 8 = omega arith in
      rw (e, f, same 6 (omega arith), same 7 (omega arith), field_same 4 8 (omega arith)) refl

  kind_same : (readings : List ℕ) (age : ℕ) (before : List ℕ) (kind : ℕ) (this : List ℕ) (i : ℕ)
      → kind_truth readings age rule before kind at this i ≡ kind_truth readings age s before kind at this i
  unfolding kind_truth named
  kind_same readings age before kind this i =
      rw (left_same readings age, right_same readings age, first_same, field_same 2 2 (omega arith), field_same 2 6 (omega arith), field_same 2 8 (omega arith)) refl

-- ---- the parts one after another

module _ (readings : List ℕ) (age : ℕ) (rule before : List ℕ) (n : ℕ) where
  abbrev up_to : ℕ → List ℕ
  up_to d = truths_to readings age rule before n d

  to_long : (d : ℕ) → length (up_to d) ≡ 64
  unfolding truths_to
  to_long zero = refl
  to_long (suc d) = length-set (up_to d) d (kind_truth readings age rule before (kind_byte rule d) (operand_place n d) (up_to d) d) ∙ to_long d

  to_made : (d : ℕ) → d < 64 → get_or (up_to (suc d)) d 0 ≡ kind_truth readings age rule before (kind_byte rule d) (operand_place n d) (up_to d) d
  unfolding truths_to
  to_made d h =
      get_or-set_same (up_to d) d (kind_truth readings age rule before (kind_byte rule d) (operand_place n d) (up_to d) d) 0 (omega (arith, to_long d))

  -- a part's truth stays, once it is made
  to_stays : (a d : ℕ) → a < d → get_or (up_to d) a 0 ≡ get_or (up_to (suc a)) a 0
  unfolding truths_to
  to_stays a zero h = absurd (omega arith)
  to_stays a (suc d) h =
      by_cases (ℕ_discrete a d)
      (λ e. ap (λ (x : ℕ). get_or (up_to (suc x)) a 0) (sym e))
      (λ k. get_or-set_other (up_to d) d a (kind_truth readings age rule before (kind_byte rule d) (operand_place n d) (up_to d) d) 0 k ∙ to_stays a d (omega arith))

-- ---- the sheet

module _ (sheet : List ℕ) (clear : sheet_outcome sheet ≡ unrefused) (bytes : Bytes sheet) where
  abbrev count : ℕ
  count = part_count sheet

  -- a part by its kind byte and its operand
  part_read : (i : ℕ) → i < count
      → (kind_byte sheet i ≡ kind_of (parts_of sheet i))
      × (operand_at (shape_of (kind_of (parts_of sheet i))) sheet (operand_place count i) ≡ Some (operand_of (parts_of sheet i)))
  part_read i h =
      let t = cleared_taken sheet clear i h in
      let o = (passed sheet i (parts_of sheet i) t).from in
      let k = (taken_laid sheet i (parts_of sheet i) bytes t).0.kind in
      let same : o.operand ≡ operand_of (parts_of sheet i) = sym (operand_back (kind_byte sheet i) o.operand) ∙ ap operand_of o.made in
      (k, ap (λ (x : ℕ). operand_at (shape_of x) sheet (operand_place count i)) (sym k) ∙ o.found ∙ ap Some same)

  module _ (readings : List ℕ) (age : ℕ) (rule before : List ℕ) (copied : (j : ℕ) → j < length sheet → get_or rule j 0 ≡ get_or sheet j 0)
      (b : ℕ → Bool) (held : (j : ℕ) → j < count → get_or before j 0 ≡ byte_of (b j)) where
    abbrev made : List ℕ
    made = truths_to readings age rule before count count

    abbrev marks : ℕ → Bool
    marks i = eqb (get_or made i 0) 1

    abbrev from : ℕ → Bool
    from i = truth_from (seen_kept readings age) (eqb age 1) b i (views_of sheet i) marks

    kind_copied : (i : ℕ) → i < count → kind_byte rule i ≡ kind_of (parts_of sheet i)
    unfolding kind_byte kind_place
    kind_copied i h = copied (4 + i) (omega (arith, sizes_known sheet (cleared_sizes sheet clear))) ∙ (part_read i h).0

    one_made : (i : ℕ) → i < count → ((a : ℕ) → a < i → get_or made a 0 ≡ byte_of (marks a)) → get_or made i 0 ≡ byte_of (from i)
    unfolding views_of
    one_made i h known =
        let few = (sizes_known sheet (cleared_sizes sheet clear)).1 in
        to_stays readings age rule before count i count h
        ∙ to_made readings age rule before count i (omega arith)
        ∙ ap (λ (k : ℕ). kind_truth readings age rule before k (operand_place count i) (up_to readings age rule before count i) i) (kind_copied i h)
        ∙ kind_same rule sheet (operand_place count i)
        (λ k l. copied (operand_place count i + k) (omega (arith, operand_inside sheet (cleared_sizes sheet clear) i h)))
        readings age before (kind_of (parts_of sheet i)) (up_to readings age rule before count i) i
        ∙ part_made readings age sheet before (up_to readings age rule before count i) (operand_place count i) i count bytes (omega arith) b marks held
        (λ a l. to_stays readings age rule before count a i l ∙ sym (to_stays readings age rule before count a count (omega arith)) ∙ known a l) h
        (parts_of sheet i) (channel_count sheet) (cleared_fits sheet clear i h) (part_read i h).1

    below_made : (d i : ℕ) → i < d → i < count → get_or made i 0 ≡ byte_of (from i)
    below_made zero i k h = absurd (omega arith)
    below_made (suc d) i k h =
        one_made i h (λ a l.
        let e = below_made d a (omega arith) (omega arith) in
        e ∙ ap byte_of (sym (byte_back (from a)) ∙ ap (λ (x : ℕ). eqb x 1) (sym e)))

    -- What is read off the bytes of a sheet is a truth for each part,
    pub truth_byte : (i : ℕ) → i < count → get_or made i 0 ≡ byte_of (marks i)
    truth_byte i h =
        let e = below_made (suc i) i (omega arith) h in
        e ∙ ap byte_of (sym (byte_back (from i)) ∙ ap (λ (x : ℕ). eqb x 1) (sym e))

    -- made as the part asks for.
    pub truth_made : (i : ℕ) → i < count → marks i ≡ from i
    truth_made i h = ap (λ (x : ℕ). eqb x 1) (below_made (suc i) i (omega arith) h) ∙ byte_back (from i)
