-- Numbers as the code keeps them, lifted so that none is below 0. Assumes nothing.
use Rattle.std.specs.Prelude.{ℕ, ◌<◌, ℤ}
use Rattle.std.proofs.Math.IntN.{sub_ℕ}
use Rattle.cltlb.specs.Run as cltlb
use Rattle.plan.specs.declared.lookup.Seen.{Seen}
use Rattle.plan.specs.declared.lookup.Seen.TheVariants.{Number, Pinned, BeforeRun}

-- the passes that the lookups reach
abbrev pub passes : ℕ
passes = 1024

-- a value, reading + pass × drift, is kept as the value + 1024 × 2 ^ 31
abbrev pub value_bias : ℕ
value_bias = 2199023255552

abbrev pub lowered : ℕ → ℤ
lowered n = sub_ℕ n value_bias

-- what is kept of a value is below 2 ^ 42, far below 2 ^ 64
abbrev pub value_end : ℕ
value_end = 4398046511104

-- what is seen, of what the code keeps of it
unfoldable pub seen_of : Seen → cltlb.Seen
seen_of (Number n) = cltlb.number (lowered n)
seen_of Pinned = cltlb.pinned
seen_of BeforeRun = cltlb.before_run

abbrev pub Small : Seen → Type 0
Small (Number n) = n < value_end
Small Pinned = Unit {0}
Small BeforeRun = Unit {0}
