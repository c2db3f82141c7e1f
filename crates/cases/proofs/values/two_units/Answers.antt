use Rattle.std.proofs.Common.{refl}
use Rattle.rows.specs.declared.codes.Kind.TheVariants.{Generation}
use Rattle.cases.specs.Cases.{two_units}
use Rattle.cases.specs.Entered.{responsive}
use Rattle.cases.proofs.Computed.{two_units_hold}
use Rattle.cases.proofs.Shown.{is_asking, is_unit, two_rows, shown}
use Rattle.cases.proofs.values.two_units.Goals as goal

pub returns : goal.returns
returns c =
    let row = is_asking 1 (responsive 30 30) _ _ c.qse.ensures refl refl in
    let units = two_rows (is_unit 1 Generation 30 (responsive 30 30) _ _ c.unit.ensures refl refl) (is_unit 1 Generation 30 (responsive 0 30) _ _ c.unit-2.ensures refl refl) in
    shown two_units two_units_hold _ _ _ _ row refl units c.values.ensures
