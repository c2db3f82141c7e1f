use Rattle.std.proofs.Common.{◌≡◌, vec_items}
use Rattle.drawn.specs.Lists.{numbers, state_after}
use Rattle.drawn.proofs.draws.Draws.positions.Given as goal

abbrev pub invariant-loop-place : goal.invariant-loop-place
invariant-loop-place l = (vec_items l.positions ≡ numbers l._place l.fn.self.state l.most) × (l.self.state ≡ state_after l._place l.fn.self.state)
