use Rattle.std.proofs.Common.{◌≡◌, vec_items}
use Rattle.drawn.specs.Lists.{amounts, amounts_state}
use Rattle.drawn.proofs.draws.Draws.amounts.Given as goal

abbrev pub invariant-loop-place : goal.invariant-loop-place
invariant-loop-place l = (vec_items l.amounts ≡ amounts l._place l.fn.self.state) × (l.self.state ≡ amounts_state l._place l.fn.self.state)
