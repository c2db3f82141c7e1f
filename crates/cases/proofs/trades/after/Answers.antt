use Rattle.std.proofs.Common.{◌≡◌, arith}
use Rattle.rows.specs.Rows.{plain_qse}
use Rattle.account.specs.Own.{qse_own}
use Rattle.cases.specs.Trade.{two_qses, traded, buyer, seller}
use Rattle.cases.specs.Worked.{sale}
use Rattle.cases.proofs.Computed.{sale_trades}
use Rattle.cases.proofs.Shown.{both_from, mapped_at, two_rows}
use Rattle.cases.proofs.trades.after.Goals as goal

pub returns : goal.returns
returns c =
    let qses = c.args.rows.now.qses in
    let loads = c.requires.loads in
    let units = c.requires.units in
    let trades = c.requires.trades in
    let tables : _ ≡ traded = λ i. record { loads = loads i; resources = units i; trades = trades i } in
    let buys = mapped_at plain_qse qses two_qses 0 c.index-rows-0.result buyer c.requires.qses (omega arith) in
    let sells = mapped_at plain_qse qses two_qses 1 c.index-rows-1.result seller c.requires.qses (omega arith) in
    two_rows
    (both_from _ (qse_own buyer traded) _ sale.buyer c.shorts.ensures (λ i. qse_own (buys i) (tables i)) sale_trades.buyer)
    (both_from _ (qse_own seller traded) _ sale.seller c.shorts-2.ensures (λ i. qse_own (sells i) (tables i)) sale_trades.seller)
