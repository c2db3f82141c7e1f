use Rattle.std.proofs.Common.{◌+◌, arith}
use Rattle.measure.proofs.LineTotals.{at_most_more}
use Rattle.measure.proofs.totals.Totals.with.Goals as goal

pub returns : goal.returns
returns c =
    let small = c.args.line.now.small in
    record {
      value = record {
        supply = omega (arith, c.from.ensures, c.from-2.ensures);
        offline = omega (arith, c.from-3.ensures);
        served = λ f is. c.plus.ensures.value f _ is c.served_by.ensures.value;
      };
      small = λ m under. record {
        supply = omega (arith, under.supply, c.from.ensures, c.from-2.ensures, small);
        offline = omega (arith, under.offline, c.from-3.ensures, small);
        served = at_most_more (m + 20000000) (m + 30000000) (omega arith) (c.plus.ensures.small m under.served);
      };
    }
