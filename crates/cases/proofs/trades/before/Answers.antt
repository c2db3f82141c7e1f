use Rattle.std.proofs.Common.{◌≡◌, ℕ, [], Fits, Fits-lit, w64, sym, subst}
use Rattle.measure.specs.Grouped.{grouped}
use Rattle.least.specs.SubType.{sub_type}
use Rattle.cases.specs.Trade.{untraded}
use Rattle.cases.proofs.Computed.{sale_trades}
use Rattle.cases.proofs.Shown.{sum_from}
use Rattle.cases.proofs.trades.before.Goals as goal

sums : (c : goal.After-total_short-sub_type) → (c.total_short-grouped.result ≡ 4000) × (c.total_short-sub_type.result ≡ 4000)
sums c =
    let loads = c.requires.loads in
    let units = c.requires.units in
    let tables : _ ≡ untraded = λ i. record { loads = loads i; resources = units i; trades = [] } in (
      sum_from grouped _ 4000 _ _ c.total_short-grouped.ensures.sum tables c.requires.qses sale_trades.before.grouped,
      sum_from sub_type _ 4000 _ _ c.total_short-sub_type.ensures.sum tables c.requires.qses sale_trades.before.subtype,
    )

fits : (n : ℕ) → n ≡ 4000 → Fits w64 n
fits n e = subst (Fits w64) (sym e) (Fits-lit tt)

pub overflow_cast-result : goal.overflow_cast-result
overflow_cast-result c = fits _ (sums c).0

pub overflow_cast-result-2 : goal.overflow_cast-result-2
overflow_cast-result-2 c = fits _ (sums c).1

pub returns : goal.returns
returns c =
    let g = (sums c).0 in
    let s = (sums c).1 in
    λ i. record { grouped = g i; sub_type = s i }
