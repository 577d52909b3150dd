-- The word of a row as bytes: written in two halves. Assumes nothing.
use Prim.Native.Nat.{ℕ, zero, suc, ◌+◌, ◌*◌, ◌/◌, ◌%◌, ◌^◌, ◌<◌}
use native.Mathlib.Omega.{arith}
use mathlib.Core.Path.{◌≡◌}
use mathlib.Core.List.{List}
use mathlib.Core.Logic.{inl, inr, ⊎_elim}
use lib.ListN.{get_or}
use Rattle.fields.specs.LittleEndian.{bytes_of}
use Rattle.fields.proofs.Widths.{number_of_bytes, number_same}
use Rattle.table.specs.inner.Stored.{Stored}
use Rattle.table.proofs.Stores.{stored_join}
use Rattle.words.specs.inner.Words.{word_on}
use Rattle.words.specs.inner.Written.{WordPut}

-- The bytes of the halves of a word are its bytes.
low_bytes : (word k : ℕ) → k < 4 → get_or (bytes_of 4 (word % 4294967296)) k 0 ≡ get_or (bytes_of 8 word) k 0
unfolding bytes_of
low_bytes word zero l = omega arith
low_bytes word (suc zero) l = omega arith
low_bytes word (suc (suc zero)) l = omega arith
low_bytes word (suc (suc (suc zero))) l = omega arith
low_bytes word (suc (suc (suc (suc k)))) l = absurd (omega arith)

high_bytes : (word k : ℕ) → k < 4 → get_or (bytes_of 4 (word / 4294967296)) k 0 ≡ get_or (bytes_of 8 word) (4 + k) 0
unfolding bytes_of
high_bytes word zero l = omega arith
high_bytes word (suc zero) l = omega arith
high_bytes word (suc (suc zero)) l = omega arith
high_bytes word (suc (suc (suc zero))) l = omega arith
high_bytes word (suc (suc (suc (suc k)))) l = absurd (omega arith)

-- A word written in two halves is written; the words of other rows are what they were.
module _ {old mid new : List ℕ} (row word : ℕ) (small : word < 256 ^ 8)
    (low : Stored old mid (8 * row) 0 4 (λ k. get_or (bytes_of 4 (word % 4294967296)) k 0))
    (high : Stored mid new (8 * row + 4) 0 4 (λ k. get_or (bytes_of 4 (word / 4294967296)) k 0)) where
  both : Stored old new (8 * row) 0 8 (λ k. get_or (bytes_of 8 word) k 0)
  both = stored_join low high (low_bytes word) (high_bytes word)

  pub word_put : WordPut old new row word
  unfolding word_on
  word_put = record {
    long = both.long;
    there = number_of_bytes 8 word new (8 * row) small (λ k l. both.inside k (omega arith) l);
    others = λ r h. number_same 8 new old (8 * r) (λ k l. both.outside (8 * r + k)
        (⊎_elim (λ (a : r < row). inl (omega arith)) (λ (a : row < r). inr (omega arith)) h));
  }
