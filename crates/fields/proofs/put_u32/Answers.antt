use Prim.Native.Nat.{ℕ, ◌/◌}
use native.Mathlib.Omega.{arith}
use mathlib.Core.List.{List, ◌++◌}
use mathlib.Core.Path.{◌≡◌, ◌∙◌, ap}
use lib.ListN.{drop}
use Rattle.fields.specs.LittleEndian.{bytes_of}
use Rattle.fields.proofs.put_u32.Goals as goal

pub returns : goal.returns
unfolding bytes_of
returns c =
    let third : c.args.x / 65536 ≡ c.args.x / 256 / 256 = omega arith in
    let fourth : c.args.x / 16777216 ≡ c.args.x / 256 / 256 / 256 = omega arith in
    rw (← fourth, ← third) (ap (λ (l : List ℕ). l ++ drop 4 c.args.t.now) (c.copy_from_slice.ensures.after ∙ c.to_le_bytes.ensures))
