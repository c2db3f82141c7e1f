use Rattle.std.proofs.Common.{refl}
use Rattle.rows.specs.declared.codes.Kind.TheVariants.{Generation}
use Rattle.cases.specs.Cases.{regulated}
use Rattle.cases.specs.Entered.{regulation}
use Rattle.cases.proofs.Computed.{regulated_holds}
use Rattle.cases.proofs.Shown.{is_asking, is_unit, one_row, shown}
use Rattle.cases.proofs.values.regulated.Goals as goal

pub returns : goal.returns
returns c =
    let row = is_asking 1 (regulation 100 100) _ _ c.qse.ensures refl refl in
    let units = one_row (is_unit 1 Generation 100 (regulation 100 100) _ _ c.unit.ensures refl refl) in
    shown regulated regulated_holds _ _ _ _ row refl units c.values.ensures
