use Rattle.std.proofs.Common.{refl}
use Rattle.cases.specs.Cases.{bare_load}
use Rattle.cases.specs.Entered.{no_reserves}
use Rattle.cases.proofs.Computed.{bare_load_holds}
use Rattle.cases.proofs.Shown.{is_asking, is_load, one_row, shown}
use Rattle.cases.proofs.values.bare_load.Goals as goal

pub returns : goal.returns
returns c =
    let row = is_asking 1 no_reserves _ _ c.qse.ensures refl refl in
    let loads = one_row (is_load 1 1000 _ _ c.load.ensures refl) in
    shown bare_load bare_load_holds _ _ _ _ row loads refl c.values.ensures
