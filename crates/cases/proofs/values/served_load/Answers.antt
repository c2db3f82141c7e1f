use Rattle.std.proofs.Common.{refl}
use Rattle.rows.specs.declared.codes.Kind.TheVariants.{Generation}
use Rattle.cases.specs.Cases.{served_load}
use Rattle.cases.specs.Entered.{no_reserves}
use Rattle.cases.proofs.Computed.{served_load_holds}
use Rattle.cases.proofs.Shown.{is_asking, is_load, is_unit, one_row, shown}
use Rattle.cases.proofs.values.served_load.Goals as goal

pub returns : goal.returns
returns c =
    let row = is_asking 1 no_reserves _ _ c.qse.ensures refl refl in
    let loads = one_row (is_load 1 1000 _ _ c.load.ensures refl) in
    let units = one_row (is_unit 1 Generation 4000 no_reserves _ _ c.unit.ensures refl refl) in
    shown served_load served_load_holds _ _ _ _ row loads units c.values.ensures
