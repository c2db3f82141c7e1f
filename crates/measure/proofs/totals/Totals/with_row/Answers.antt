use Rattle.std.proofs.Common.{sym, ◌∙◌, arith}
use Rattle.measure.specs.Grouped.{supply}
use Rattle.measure.specs.Levels.{served}
use Rattle.measure.proofs.LineTotals.{levels_same, served_is, own_part_is}
use Rattle.measure.proofs.totals.Totals.with_row.Goals as goal

pub returns : goal.returns
returns c =
    let a = c.args.a.now in
    let r = c.args.row.now in
    let own = sym c.owns.ensures ∙ c.if-not-owns.false in
    let is = c.of.ensures in
    let adds = c.with.ensures.value in
    record {
      value = record {
        supply = omega (arith, adds.supply, own_part_is supply a r own, is.available, is.loadpart);
        offline = omega (arith, adds.offline, own_part_is (λ l. l.offline) a r own, is.offline);
        served = λ f i. levels_same _ _ (λ ks all. omega (arith, served_is _ _ is ks all, own_part_is (served ks) a r own)) (adds.served f i);
      };
      small = c.with.ensures.small;
    }
