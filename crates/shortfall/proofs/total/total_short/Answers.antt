use Rattle.std.proofs.Common.{map}
use Rattle.rows.specs.Rows.{plain_qse}
use Rattle.account.specs.Account.{plain_tables}
use Rattle.shortfall.proofs.Bounded.{pool_bounded}
use Rattle.shortfall.proofs.PoolCovered.{sum_covers_pool}
use Rattle.shortfall.proofs.total.total_short.Goals as goal

pub returns : goal.returns
returns g c =
    let mm = c.args.m.now in
    let laws = g.met.M.Measure in
    let sum = c.of.ensures.sum in
    record {
      sum = sum;
      pool = sum_covers_pool (laws.order mm) (laws.pool mm) (laws.nothing mm) (plain_tables c.args.tables) (map plain_qse c.args.rows.now) _ sum;
      bounded = pool_bounded (laws.bound mm) c.args.tables c.args.rows.now;
    }
