use Rattle.std.proofs.Common.{refl}
use Rattle.cases.specs.Cases.{nothing}
use Rattle.cases.specs.Entered.{no_reserves}
use Rattle.cases.proofs.Computed.{nothing_holds}
use Rattle.cases.proofs.Shown.{is_asking, shown}
use Rattle.cases.proofs.values.nothing.Goals as goal

pub returns : goal.returns
returns c =
    let row = is_asking 1 no_reserves _ _ c.qse.ensures refl refl in
    shown nothing nothing_holds _ _ _ _ row refl refl c.values.ensures
