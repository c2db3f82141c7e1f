use Rattle.std.proofs.Common.{◌+◌, ◌*◌, refl, ◌∙◌, arith}
use Rattle.measure.specs.Grouped.{supply}
use Rattle.measure.specs.Levels.{served}
use Rattle.measure.specs.Totals.{own_part}
use Rattle.account.proofs.Rows.{sum_turn, sum_all}
use Rattle.measure.proofs.LineTotals.{levels_same, under_more, lines_sum}
use Rattle.measure.proofs.totals.Totals.of.Goals as goal

pub loop-row-preserved : goal.loop-row-preserved
loop-row-preserved c =
    let a = c.args.a.now in
    let adds = c.with_row-totals.ensures.value in
    let d = c.row-item.result in
    let lt = c.loop-row-test.true in
    let inv = c.loop-row.invariant in (
      adds.supply ∙ sum_turn (own_part supply a) a.resources.now _ d lt c.row-item.is inv.0 refl,
      adds.offline ∙ sum_turn (own_part (λ x. x.offline) a) a.resources.now _ d lt c.row-item.is inv.1 refl,
      levels_same _ _ (λ ks all. sum_turn (own_part (served ks) a) a.resources.now _ d lt c.row-item.is refl refl) (adds.served _ inv.2),
      under_more (30000000 * c.loop-row.row-index + 30000000) (30000000 * (c.loop-row.row-index + 1)) (omega arith) (c.with_row-totals.ensures.small _ inv.3),
    )

pub returns : goal.returns
returns c =
    let a = c.args.a.now in
    let left = c.loop-row-test.false in
    let inv = c.loop-row.invariant in
    record {
      value = record {
        supply = sum_all (own_part supply a) a.resources.now _ left inv.0 ∙ lines_sum supply a;
        offline = sum_all (own_part (λ x. x.offline) a) a.resources.now _ left inv.1 ∙ lines_sum (λ x. x.offline) a;
        served = levels_same _ _ (λ ks all. sum_all (own_part (served ks) a) a.resources.now _ left refl ∙ lines_sum (served ks) a) inv.2;
      };
      small = under_more (30000000 * c.loop-row.row-index) 15360000000 (omega (arith, c.loop-row.auto.row-index-end, a.few.1)) inv.3;
    }
