use Rattle.std.proofs.Common.{◌≡◌, ap, arith}
use Rattle.rows.specs.Rows.{plain_qse}
use Rattle.account.specs.Account.{plain_tables}
use Rattle.account.specs.Own.{qse_own}
use Rattle.rows.specs.declared.codes.Side.TheVariants.{Snapshot, Adjusted}
use Rattle.shortfall.specs.Shortfall.{shortfall_of}
use Rattle.shortfall.proofs.Bounded.{value_small}
use Rattle.shortfall.proofs.Helps.{never_raised}
use Rattle.shortfall.proofs.short.short_of.Goals as goal

pub returns : goal.returns
returns g c =
    let m = g.M.Measure.meaning c.args.m.now in
    let q = c.args.row.now in
    let t = c.args.tables in
    let laws = g.met.M.Measure in
    let first = ap m c.new-snapshot.ensures.view in
    let second = ap m c.new-adjusted.ensures.view in
    let is : c.beyond_credit.result ≡ shortfall_of m (qse_own (plain_qse q) (plain_tables t)) = omega (arith, c.beyond_credit.ensures, first, second) in
    record {
      value = is;
      small = omega (arith, is, value_small (laws.bound c.args.m.now) q t Snapshot, value_small (laws.bound c.args.m.now) q t Adjusted);
      helped = never_raised (laws.help c.args.m.now) (qse_own (plain_qse q) (plain_tables t)) _ is;
    }
