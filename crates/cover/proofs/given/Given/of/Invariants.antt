use Rattle.std.proofs.Common.{◌≡◌, ℕ, ◌*◌, ◌<◌, get_or, take, sum_by}
use Rattle.measure.specs.Grouped.{supply}
use Rattle.measure.specs.Totals.{own_part}
use Rattle.cover.specs.Given.{Within, reach_of}
use Rattle.cover.proofs.given.Given.of.Given as goal

abbrev pub invariant-loop-row : goal.invariant-loop-row
invariant-loop-row l =
    ((k : ℕ) → k < 144 → get_or l.given.reached k 0 ≡ sum_by (own_part (reach_of k) l.a) (take l.row-index l.a.resources.now))
    × (l.given.supply ≡ sum_by (own_part supply l.a) (take l.row-index l.a.resources.now))
    × (l.given.offline ≡ sum_by (own_part (λ x. x.offline) l.a) (take l.row-index l.a.resources.now))
    × Within l.given (30000000 * l.row-index)
