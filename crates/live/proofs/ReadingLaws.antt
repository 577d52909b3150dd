-- What the code keeps of rows and reads of them, as the definitions have it. Assumes nothing.
use Prim.Native.Nat.{ℕ, ◌+◌, ◌*◌, ◌-◌, ◌≤◌, ◌<◌}
use native.Mathlib.Decide.{dec_lt}
use native.Mathlib.Omega.{arith}
use mathlib.Core.Logic.{by_cases}
use mathlib.Core.Path.{◌≡◌, refl, sym, ap, ◌∙◌}
use mathlib.Core.List.{List}
use lib.ListN.{get_or}
use Rattle.std.specs.List.{CopiedTo, SameBelow, SameFrom}
use borrow.Author.Tests.{lt-ltb, le-ltb, le-leb, lt-leb, eq-eqb, ne_eqb}
use Rattle.fields.specs.LittleEndian.{number_at}
use Rattle.live.specs.Kept.{kept, kept_under, new_reading, reading_after}
use Rattle.live.specs.Truths.{reading_at, term_value}
use Rattle.live.proofs.Filling.{Filled}

module _ (top n : ℕ) where
  pub no_top : top ≡ 0 → n ≡ kept_under top n
  unfolding kept_under
  no_top e = simp (eq-eqb top 0 e)

  pub above_top : (top ≡ 0 → ⊥) → top + 2147483648 ≤ n → 4294967296 ≡ kept_under top n
  unfolding kept_under
  above_top e h = simp (ne_eqb top 0 e, le-leb (top + 2147483648) n h)

  pub below_top : (top ≡ 0 → ⊥) → n < top + 2147483648 → n ≡ kept_under top n
  unfolding kept_under
  below_top e h = simp (ne_eqb top 0 e, lt-leb (top + 2147483648) n h)

module _ (tops row : List ℕ) (v channel : ℕ) where
  pub no_channel : v ≤ channel → 0 ≡ new_reading tops row v channel
  unfolding new_reading
  no_channel h = simp (le-ltb channel v h)

  pub new_channel : {p k r : ℕ} → channel < v → p ≡ number_at 4 row (4 * channel) → k ≡ kept p → r ≡ kept_under (get_or tops channel 0) k → r ≡ new_reading tops row v channel
  unfolding new_reading
  new_channel h e f g = rw (lt-ltb channel v h, ← e, ← f) g

module _ (readings tops row : List ℕ) (v : ℕ) where
  abbrev f : ℕ → ℕ
  f = reading_after readings tops row v

  -- The rows that stay stand where the definition has them, moved there in two parts,
  pub older_kept : (m l : List ℕ) → CopiedTo readings m 8 0 16 → SameFrom readings m 16 → CopiedTo m l 24 16 16 → SameBelow m l 16 → Filled 0 l f 32 l
  unfolding reading_after
  older_kept m l front behind last before = record {
    long = refl;
    done = λ j h. moved j h ∙ sym (simp (lt-ltb j 32 h) (ap (λ (k : ℕ). get_or readings k 0) (omega arith)));
    rest = λ j h. refl;
  }
    where
      moved : (j : ℕ) → j < 32 → get_or l j 0 ≡ get_or readings (8 + (j - 0)) 0
      moved j h = by_cases (dec_lt j 16)
          (λ p. before j 0 p ∙ front j 0 (omega arith) p)
          (λ p. last j 0 (omega arith) (omega arith) ∙ behind (24 + (j - 16)) 0 (omega arith) ∙ ap (λ (k : ℕ). get_or readings k 0) (omega arith))

  -- and so does the new one.
  pub newest_kept : {r : ℕ} (channel : ℕ) → r ≡ new_reading tops row v channel → r ≡ f (32 + channel)
  unfolding reading_after
  newest_kept channel e =
      let k : 32 ≤ 32 + channel = omega arith in
      let q : 32 + channel - 32 ≡ channel = omega arith in e ∙ sym (rw (le-ltb (32 + channel) 32 k, q) refl)

module _ (readings : List ℕ) (age at : ℕ) where
  pub before_add : at < 40 - 8 * age → 4294967297 ≡ reading_at readings age at
  unfolding reading_at
  before_add h = simp (lt-ltb at (40 - 8 * age) h)

  pub past_all : 40 - 8 * age ≤ at → 40 ≤ at → 4294967297 ≡ reading_at readings age at
  unfolding reading_at
  past_all h k = simp (le-ltb at (40 - 8 * age) h, le-leb 40 at k)

  pub since_seen : 40 - 8 * age ≤ at → at < 40 → get_or readings at 0 ≡ reading_at readings age at
  unfolding reading_at
  since_seen h k = simp (le-ltb at (40 - 8 * age) h, lt-leb 40 at k)

module _ (readings : List ℕ) (age : ℕ) (rule : List ℕ) (at : ℕ) where
  pub constant_value : {p r : ℕ} → get_or rule at 0 ≡ 0 → p ≡ number_at 4 rule (at + 2) → r ≡ kept p → r ≡ term_value readings age rule at
  unfolding term_value
  constant_value z e f = rw (eq-eqb (get_or rule at 0) 0 z, ← e) f

  pub reading_value : {p r : ℕ} → (get_or rule at 0 ≡ 0 → ⊥) → p ≡ number_at 4 rule (at + 2)
      → r ≡ reading_at readings age (8 * get_or rule (at + 1) 0 + p) → r ≡ term_value readings age rule at
  unfolding term_value
  reading_value z e g = rw (ne_eqb (get_or rule at 0) 0 z, ← e) g
