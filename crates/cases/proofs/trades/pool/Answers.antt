use Rattle.std.proofs.Common.{refl}
use Rattle.rows.specs.declared.codes.Kind.TheVariants.{Generation}
use Rattle.cases.specs.Entered.{no_reserves}
use Rattle.cases.specs.Trade.{pooled}
use Rattle.cases.proofs.Computed.{pooled_holds}
use Rattle.cases.proofs.Shown.{is_asking, is_load, is_unit, one_row, two_rows, shown}
use Rattle.cases.proofs.trades.pool.Goals as goal

pub returns : goal.returns
returns c =
    let row = is_asking 1 no_reserves _ _ c.qse.ensures refl refl in
    let loads = two_rows (is_load 1 1000 _ _ c.load.ensures refl) (is_load 1 500 _ _ c.load-2.ensures refl) in
    let units = one_row (is_unit 1 Generation 3000 no_reserves _ _ c.unit.ensures refl refl) in
    shown pooled pooled_holds _ _ _ _ row loads units c.values.ensures
