-- `settling::copies::mark_next` meets its contract. Assumes nothing.
use Prim.Native.Nat.{◌+◌}
use mathlib.Core.Path.{◌≡◌, ◌∙◌}
use Rattle.std.proofs.Common.{rules}
use Rattle.words.specs.inner.Words.{mark_at}
use Rattle.settling.proofs.Copying.{next_marked}
use Rattle.settling.proofs.copies.mark_next.Goals as goal

pub returns : goal.returns
returns c =
    let after = c.put_each.ensures (λ row. mark_at c.args.scratch.now c.args.a (row + 1)) (λ s row x same l h.
    let here : x ≡ mark_at s.now c.args.a (row + 1) = search rules in here ∙ same c.args.a c.requires.2 (row + 1)) in
    next_marked c.args.laid.start c.args.laid.cycle c.requires.3 c.args.scratch.now c.args.a after c.mark_at-end.ensures c.put_mark.ensures
