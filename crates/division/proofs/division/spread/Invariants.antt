use Rattle.std.proofs.Common.{◌≡◌, drop}
use Rattle.division.specs.Division.{PaidUpto, upto}
use Rattle.division.proofs.division.spread.Given as goal

abbrev pub invariant-loop-row : goal.invariant-loop-row
invariant-loop-row g l =
    let weighs = g.T.Weighed.weighs in
    PaidUpto weighs g.T.Weighed.paid l.split.pot l.split.all l.initial.rows l.rows l.row-index
    × (drop l.row-index l.rows ≡ drop l.row-index l.initial.rows)
    × (l.before ≡ upto weighs l.initial.rows l.row-index)
