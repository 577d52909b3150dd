-- How the logic looks at a window and at a pinned reading. Assumes nothing.
use Prim.Native.Nat.{ℕ}
use mathlib.Core.Path.{◌≡◌, refl}
use lib.IntN.{ℤ}
use Rattle.cltlb.specs.Views.{view_of}
use Rattle.cltlb.specs.declared.Part.{Part}
use Rattle.cltlb.specs.declared.Part.TheVariants as part
use Rattle.cltlb.specs.declared.Atom.TheVariants.{Window, Pinned}
use Rattle.cltlb.specs.declared.View.TheVariants.{Atom}

pub view_window : {p : Part} {c from to : ℕ} {s u : ℤ} → u ≡ s → p ≡ part.Window c s from to → Atom (Window c u from to) ≡ view_of p
view_window e h = rw (e, h) refl

pub view_pinned : {p : Part} {c : ℕ} {s u : ℤ} → u ≡ s → p ≡ part.Pinned c s → Atom (Pinned c u) ≡ view_of p
view_pinned e h = rw (e, h) refl
