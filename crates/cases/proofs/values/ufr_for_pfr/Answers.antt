use Rattle.std.proofs.Common.{refl}
use Rattle.rows.specs.declared.codes.Kind.TheVariants.{LoadResource}
use Rattle.cases.specs.Cases.{ufr_for_pfr}
use Rattle.cases.specs.Entered.{responsive}
use Rattle.cases.proofs.Computed.{ufr_for_pfr_holds}
use Rattle.cases.proofs.Shown.{is_asking, is_unit, one_row, shown}
use Rattle.cases.proofs.values.ufr_for_pfr.Goals as goal

pub returns : goal.returns
returns c =
    let row = is_asking 1 (responsive 50 0) _ _ c.qse.ensures refl refl in
    let units = one_row (is_unit 1 LoadResource 50 (responsive 0 50) _ _ c.unit.ensures refl refl) in
    shown ufr_for_pfr ufr_for_pfr_holds _ _ _ _ row refl units c.values.ensures
