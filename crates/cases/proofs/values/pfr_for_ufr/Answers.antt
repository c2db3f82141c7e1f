use Rattle.std.proofs.Common.{refl}
use Rattle.rows.specs.declared.codes.Kind.TheVariants.{Generation}
use Rattle.cases.specs.Cases.{pfr_for_ufr}
use Rattle.cases.specs.Entered.{responsive}
use Rattle.cases.proofs.Computed.{pfr_for_ufr_holds}
use Rattle.cases.proofs.Shown.{is_asking, is_unit, one_row, shown}
use Rattle.cases.proofs.values.pfr_for_ufr.Goals as goal

pub returns : goal.returns
returns c =
    let row = is_asking 1 (responsive 0 50) _ _ c.qse.ensures refl refl in
    let units = one_row (is_unit 1 Generation 50 (responsive 50 0) _ _ c.unit.ensures refl refl) in
    shown pfr_for_ufr pfr_for_ufr_holds _ _ _ _ row refl units c.values.ensures
