use Rattle.std.proofs.Common.{◌≡◌, ◌+◌, ◌<◌, ◌≤◌, length, get_or, ap, subst, arith}
use Rattle.std.proofs.ByRecursion.{All-get_or}
use Rattle.std.proofs.lemmas.List.Sums.{sum_by-take-le}
use Rattle.rows.specs.Limits.{max_cents}
use Rattle.division.specs.Division.{share, upto}
use Rattle.division.proofs.Shares.{get_or_rest, rest_more, upto_more, paid_more, spread_from_exact}
use Rattle.division.proofs.division.spread.Goals as goal

-- the running sum, with the row's weight, is within the sum of all
pub share-requires : goal.share-requires
share-requires g c =
    let weighs = g.T.Weighed.weighs in
    let old = c.args.rows.now in
    let i = c.loop-row.row-index in
    let after = upto_more old c.loop-row.rows i c.loop-row.invariant.1 weighs c.row-item.result c.loop-row.before c.from.result (omega arith) c.loop-row.invariant.2 (omega arith) in
    record { order = omega arith; within = omega (arith, after, sum_by-take-le weighs old (i + 1)) }

pub loop-row-preserved : goal.loop-row-preserved
loop-row-preserved g c =
    let weighs = g.T.Weighed.weighs in
    let holds = g.T.Weighed.holds in
    let paid = g.T.Weighed.paid in
    let pot = c.args.split.pot in
    let W = c.args.split.all in
    let old = c.args.rows.now in
    let new = c.loop-row.rows in
    let i = c.loop-row.row-index in
    let row = c.row-item.result in
    let y = c.pay.new.self in
    let rest = c.loop-row.invariant.1 in
    let after = upto_more old new i rest weighs row c.loop-row.before c.from.result (omega arith) c.loop-row.invariant.2 (omega arith) in
    let lt : i < length new = omega arith in
    let fits = All-get_or (λ x. holds x + pot ≤ max_cents) old i row (omega arith) c.requires.room in
    let given = c.share.ensures.value in
    let before = c.loop-row.invariant.2 in
    let n : c.share.result ≡ share pot W (upto weighs old i) (upto weighs old (i + 1)) = cc in
    let here = c.pay.ensures.paid (omega (arith, fits, ap holds (get_or_rest old new i rest row))) in (
      paid_more old new i rest weighs paid pot W lt row y c.loop-row.invariant.0 (subst (λ k. paid (get_or new i row) k y) n here),
      rest_more old new i rest y,
      omega (arith, after),
    )

pub returns : goal.returns
returns g c =
    spread_from_exact g.T.Weighed.weighs g.T.Weighed.holds g.T.Weighed.paid g.met.T.Weighed.adds c.args.split.pot c.args.split.all c.args.split.some
    c.args.rows.now c.loop-row.rows (omega arith) (λ k lt d. c.loop-row.invariant.0 k (omega arith) d) c.requires.sum
