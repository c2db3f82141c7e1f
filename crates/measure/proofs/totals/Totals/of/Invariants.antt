use Rattle.std.proofs.Common.{◌≡◌, ◌*◌, take, sum_by}
use Rattle.measure.specs.Grouped.{supply}
use Rattle.measure.specs.Levels.{IsLevels, served}
use Rattle.measure.specs.Totals.{Under, own_part}
use Rattle.measure.proofs.totals.Totals.of.Given as goal

abbrev pub invariant-loop-row : goal.invariant-loop-row
invariant-loop-row l =
    (l.totals.supply ≡ sum_by (own_part supply l.a) (take l.row-index l.a.resources.now))
    × (l.totals.offline ≡ sum_by (own_part (λ x. x.offline) l.a) (take l.row-index l.a.resources.now))
    × IsLevels l.totals.served (λ ks. sum_by (own_part (served ks) l.a) (take l.row-index l.a.resources.now))
    × Under l.totals (30000000 * l.row-index)
