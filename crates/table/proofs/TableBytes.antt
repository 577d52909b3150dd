-- The bytes of a mark table of given marks and witnesses, one by one, and what is read from them. Assumes nothing.
use Rattle.refusal.specs.Outcome.{unrefused}
use Prim.Native.Nat.{ℕ, ◌+◌, ◌*◌, ◌≤◌, ◌<◌}
use native.Mathlib.Nat.{zero-add}
use native.Mathlib.Omega.{arith}
use mathlib.Core.Path.{◌≡◌, refl, ap, ap₂, ◌∙◌}
use mathlib.Core.Bool.{Bool, true, false}
use mathlib.Core.List.{List, [], ◌∷◌, ◌++◌}
use lib.Dec.{ltb, eqb}
use lib.ListN.{length, get_or, length-append, get_or-append}
use borrow.Author.Tests.{le-leb, eq-eqb}
use Rattle.fields.specs.LittleEndian.{number_at, bytes_of}
use Rattle.fields.specs.Pieces.{pieces}
use Rattle.fields.proofs.Pieces.{behind, length-pieces, piece_byte}
use Rattle.fields.proofs.Widths.{length_bytes, number_of_bytes}
use Rattle.refusal.specs.declared.Refusal.TheVariants.{MarkSizes, MarkByte}
use Rattle.refusal.proofs.First.{or_else_clear, unless_clear, at_lowest_clear, in_turn_clear}
use Rattle.table.specs.Bytes.{byte_of, table_of}
use Rattle.table.specs.Layout.{sizes_fit, mark_byte, marked, witness_of, above_one, bytes_outcome, table_outcome}
use Rattle.table.proofs.Places.{cell}

-- The byte of a mark is read as the mark,
pub read_byte : (x : Bool) → eqb (byte_of x) 1 ≡ x
read_byte true = refl
read_byte false = refl

-- and is not above 1.
pub not_above : (x : Bool) → ltb 1 (byte_of x) ≡ false
not_above true = refl
not_above false = refl

module _ (n w : ℕ) (mark : ℕ → ℕ → Bool) (witness : ℕ → ℕ) where
  abbrev table : List ℕ
  table = table_of n w mark witness

  abbrev head : List ℕ
  head = bytes_of 2 n ++ bytes_of 2 w

  abbrev cells : ℕ → ℕ → List ℕ
  cells i row = byte_of (mark i row) ∷ []

  abbrev marks : List ℕ
  marks = pieces (λ i. pieces (cells i) w) n

  abbrev witnesses : List ℕ
  witnesses = pieces (λ i. bytes_of 2 (witness i)) n

  length_head : length head ≡ 4
  length_head = simp (length-append, length_bytes)

  length_row : (i : ℕ) → length (pieces (cells i) w) ≡ w
  length_row i = length-pieces (cells i) 1 (λ _. refl) w ∙ omega arith

  length_marks : length marks ≡ n * w
  length_marks = length-pieces (λ i. pieces (cells i) w) w length_row n

  length_witness : (i : ℕ) → length (bytes_of 2 (witness i)) ≡ 2
  length_witness i = length_bytes 2 (witness i)

  -- Sizes.
  pub table_length : length table ≡ 4 + n * w + 2 * n
  unfolding table_of
  table_length =
      length-append head (marks ++ witnesses)
      ∙ ap₂ ◌+◌ length_head (length-append marks witnesses ∙ ap₂ ◌+◌ length_marks (length-pieces (λ i. bytes_of 2 (witness i)) 2 length_witness n))
      ∙ omega arith

  pub size_byte_parts : (k : ℕ) → k < 2 → get_or table k 0 ≡ get_or (bytes_of 2 n) k 0
  unfolding table_of
  size_byte_parts k l =
      get_or-append head (marks ++ witnesses) 0 k (omega (arith, length_head))
      ∙ get_or-append (bytes_of 2 n) (bytes_of 2 w) 0 k (omega (arith, length_bytes 2 n))

  pub size_byte_rows : (k : ℕ) → k < 2 → get_or table (2 + k) 0 ≡ get_or (bytes_of 2 w) k 0
  unfolding table_of
  size_byte_rows k l =
      get_or-append head (marks ++ witnesses) 0 (2 + k) (omega (arith, length_head))
      ∙ behind (bytes_of 2 n) (bytes_of 2 w) 2 k (length_bytes 2 n)

  -- Marks.
  pub table_byte : (i row : ℕ) → i < n → row < w → get_or table (4 + (i * w + row)) 0 ≡ byte_of (mark i row)
  unfolding table_of
  table_byte i row h l =
      let one : row ≡ row * 1 + 0 = omega arith in
      behind head (marks ++ witnesses) 4 (i * w + row) length_head
      ∙ get_or-append marks witnesses 0 (i * w + row) (omega (arith, length_marks, cell n w i row h l))
      ∙ piece_byte (λ j. pieces (cells j) w) w length_row n i row h l
      ∙ ap (λ (k : ℕ). get_or (pieces (cells i) w) k 0) one
      ∙ piece_byte (cells i) 1 (λ _. refl) w row 0 l (omega arith)

  pub table_mark : (i row : ℕ) → i < n → row < w → marked w table i row ≡ mark i row
  unfolding marked mark_byte
  table_mark i row h l = ap (λ (x : ℕ). eqb x 1) (table_byte i row h l) ∙ read_byte (mark i row)

  -- Witnesses.
  pub witness_byte : (i k : ℕ) → i < n → k < 2 → get_or table (4 + n * w + 2 * i + k) 0 ≡ get_or (bytes_of 2 (witness i)) k 0
  unfolding table_of
  witness_byte i k h l =
      let place : 4 + n * w + 2 * i + k ≡ 4 + (n * w + (i * 2 + k)) = omega arith in
      ap (λ (j : ℕ). get_or (head ++ (marks ++ witnesses)) j 0) place
      ∙ behind head (marks ++ witnesses) 4 (n * w + (i * 2 + k)) length_head
      ∙ behind marks witnesses (n * w) (i * 2 + k) length_marks
      ∙ piece_byte (λ j. bytes_of 2 (witness j)) 2 length_witness n i k h l

  pub table_witness : (i : ℕ) → i < n → witness i < 65536 → witness_of n w table i ≡ witness i
  unfolding witness_of
  table_witness i h small = number_of_bytes 2 (witness i) table (4 + n * w + 2 * i) small (λ k l. witness_byte i k h l)

  -- Refusals 7 and 8 do not turn it away.
  pub table_clear : n ≤ 64 → w ≤ 256 → table_outcome n w table ≡ unrefused
  unfolding table_outcome sizes_fit bytes_outcome above_one mark_byte
  table_clear few_parts few_rows =
      let long : 4 ≤ length table = omega (arith, table_length) in
      let parts_read : number_at 2 table 0 ≡ n = number_of_bytes 2 n table 0 (omega arith) (λ k l. ap (λ (j : ℕ). get_or table j 0) (zero-add k) ∙ size_byte_parts k l) in
      let rows_read : number_at 2 table 2 ≡ w = number_of_bytes 2 w table 2 (omega arith) size_byte_rows in
      (or_else_clear _ _).1 (
        (unless_clear _ MarkSizes).1 (simp (le-leb 4 (length table) long, parts_read, rows_read, eq-eqb n n refl, eq-eqb w w refl, eq-eqb _ _ table_length)),
        (in_turn_clear (bytes_outcome w table) n).1 (λ i h. (at_lowest_clear (above_one w table i) w (MarkByte i)).1 (λ row l.
            ap (ltb 1) (table_byte i row h l) ∙ not_above (mark i row))),
      )
