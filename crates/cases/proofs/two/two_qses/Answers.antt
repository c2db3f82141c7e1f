use Rattle.std.proofs.Common.{refl}
use Rattle.rows.specs.declared.codes.Kind.TheVariants.{Generation}
use Rattle.cases.specs.Entered.{no_reserves}
use Rattle.cases.proofs.Shown.{is_asking, is_load, is_sale, is_unit, one_row, two_rows}
use Rattle.cases.proofs.two.two_qses.Goals as goal

pub returns : goal.returns
returns c = record {
  qses = two_rows (is_asking 1 no_reserves _ _ c.qse.ensures refl refl) (is_asking 2 no_reserves _ _ c.qse-2.ensures refl refl);
  loads = two_rows (is_load 1 1000 _ _ c.load.ensures refl) (is_load 2 500 _ _ c.load-2.ensures refl);
  units = one_row (is_unit 2 Generation 3000 no_reserves _ _ c.unit.ensures refl refl);
  trades = one_row (is_sale 2 1 1500 _ _ c.trade.ensures refl);
}
