-- The definitions of take and put keep their promises. Assumes nothing.
use Rattle.std.specs.Prelude.{Result, Err}
use Rattle.refusal.specs.Outcome.{unrefused}
use Prim.Native.Nat.{ℕ, ◌<◌}
use mathlib.Core.Path.{◌≡◌, refl, sym, ap, ◌∙◌}
use mathlib.Core.List.{List}
use lib.ListN.{get_or}
use Rattle.refusal.specs.declared.Refusal.{Refusal}
use Rattle.refusal.proofs.First.{clear_refused}
use Rattle.fields.specs.inner.Ranges.{Bytes}
use Rattle.cltlb.specs.declared.Part.{Part}
use Rattle.rule.specs.Kinds.{operand_of}
use Rattle.rule.specs.Take.{take_of}
use Rattle.rule.specs.Put.{put_outcome, put_bytes}
use Rattle.rule.specs.Promise.{TakePromise, PutPromise}
use Rattle.rule.specs.inner.Words.{WordOperand}
use Rattle.rule.proofs.RoundTrips.{put_then_take, take_then_put}

module _ (s : List ℕ) (n : ℕ) where
  -- take, of a list that a slice of bytes holds
  pub take_promise : ((i : ℕ) → get_or s i 0 < 256) → {answer : Result Part Refusal} → answer ≡ take_of s n → TakePromise s n answer
  unfolding Bytes
  take_promise bytes e = record { is_take = e; put_back = λ part f. take_then_put s n part bytes (sym e ∙ f) }

  module _ (x : Part) where
    -- put, refused
    pub put_refused : {r : Refusal} → (Err r ≡ put_outcome s n x) × (s ≡ put_bytes s n x) → PutPromise s n x (Err r) s
    put_refused p = record { is_put = p.0; bytes = p.1; unchanged = λ _ _. refl; taken = λ e. absurd (clear_refused e) }

    -- put, done: the constants of its operand are numbers of four bytes
    pub put_kept : {t : List ℕ} → WordOperand (operand_of x) → (unrefused ≡ put_outcome s n x) × (t ≡ put_bytes s n x) → PutPromise s n x unrefused t
    put_kept words p = record {
      is_put = p.0;
      bytes = p.1;
      unchanged = λ _ e. absurd (clear_refused (sym e));
      taken = λ _. ap (λ (t : List ℕ). take_of t n) p.1 ∙ put_then_take s n x (sym p.0) words;
    }
